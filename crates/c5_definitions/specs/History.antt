-- The history of an order book, and what a transaction of it sees.
use Rattle.std.specs.Prelude.{◌==◌, ℕ, Bool, not, ◌&&◌, max, nat_lt, List, [], ◌∷◌, ◌++◌, filter}
use Rattle.std.specs.Prelude.{map, Option, Some, None, is_some, if◌then◌else◌}
use Rattle.std.specs.FinMap.{get}
use Rattle.std.specs.List.{flat_map}
use Rattle.std.specs.Map.{lookup}
use Rattle.c5_rows.specs.declared.cells.Cell.{Cell}
use Rattle.c5_rows.specs.declared.writes.RowName.{RowName}
use Rattle.c5_rows.specs.declared.writes.Change.{Change}
use Rattle.c5_rows.specs.declared.writes.Change.TheVariants.{Put, Gone}
use Rattle.c5_rows.specs.declared.writes.Write.{Write}
use Rattle.c5_rows.specs.State.{State}
use Rattle.c5_rows.specs.Writes.{change_of}
use Rattle.c5_definitions.specs.declared.history.Entry.{Entry}
use Rattle.c5_definitions.specs.declared.history.Event.{Event}
use Rattle.c5_definitions.specs.declared.history.Event.TheVariants as events
use Rattle.c5_rows.specs.Numbers.{is_among}

-- ---- transactions

-- a transaction: its stamp, the body that it runs, and the caller that began it
pub record Begun : Type 0 where
  pub caller : ℕ
  pub stamp : ℕ
  pub script : ℕ

abbrev pub begun_in : ℕ → ℕ → Event → List Begun
begun_in caller stamp (events.Begin script) =
    record { caller = caller; stamp = stamp; script = script } ∷ []
begun_in caller stamp (events.Read name) = []
begun_in caller stamp (events.Commit writes) = []
begun_in caller stamp events.Cancel = []

abbrev pub committed_in : ℕ → Event → List (ℕ × List Write)
committed_in stamp (events.Begin script) = []
committed_in stamp (events.Read name) = []
committed_in stamp (events.Commit writes) = (stamp, writes) ∷ []
committed_in stamp events.Cancel = []

abbrev pub ended_in : ℕ → Event → List ℕ
ended_in stamp (events.Begin script) = []
ended_in stamp (events.Read name) = []
ended_in stamp (events.Commit writes) = stamp ∷ []
ended_in stamp events.Cancel = stamp ∷ []

-- the transactions that were begun, in order
unfoldable pub begun : List Entry → List Begun
begun history = flat_map (λ entry. begun_in entry.caller entry.stamp entry.event) history

-- the stamps that were committed, each with its writes
unfoldable pub commits : List Entry → List (ℕ × List Write)
commits history = flat_map (λ entry. committed_in entry.stamp entry.event) history

-- the stamps that were committed or cancelled
unfoldable pub ended_stamps : List Entry → List ℕ
ended_stamps history = flat_map (λ entry. ended_in entry.stamp entry.event) history

-- the transactions that were begun, and neither committed nor cancelled
unfoldable pub open_txns : List Entry → List Begun
open_txns history = filter (λ b. not (is_among b.stamp (ended_stamps history))) (begun history)

-- the stamp that was begun last; with none, the given one
abbrev pub last_begun : ℕ → List Begun → ℕ
last_begun last [] = last
last_begun last (b ∷ more) = last_begun b.stamp more

unfoldable pub last_stamp : ℕ → List Entry → ℕ
last_stamp last history = last_begun last (begun history)

-- ---- versions

-- whether these writes have one of this row
abbrev pub writes_row : RowName → List Write → Bool
writes_row name writes = is_some (change_of name writes)

-- the greatest of the stamps below s that wrote the row, or 0
abbrev pub version_in : RowName → ℕ → List (ℕ × List Write) → ℕ
version_in name s [] = 0
version_in name s (commit ∷ more) =
    if nat_lt commit.0 s && writes_row name commit.1 then max commit.0 (version_in name s more)
    else version_in name s more

-- the version of a row that the stamp s sees: the greatest stamp below s whose commit writes the
-- row, or 0, the start version
unfoldable pub version_at : List Entry → RowName → ℕ → ℕ
version_at history name s = version_in name s (commits history)

-- the row that a change leaves
abbrev pub row_left : Change → Option (List Cell)
row_left (Put row) = Some row
row_left Gone = None

-- what the commit of a version left of the row
abbrev pub left_by : Option (List Write) → RowName → Option (List Cell)
left_by None name = None
left_by (Some writes) name = elim
    (change_of name writes) [ None ↦ None | Some change ↦ row_left change ]

-- the row of a version; for the start version it is that of the start
unfoldable pub row_of_version : State → List Entry → RowName → ℕ → Option (List Cell)
row_of_version start history name version =
    if version == 0 then get start name
    else left_by (lookup (λ stamp. stamp == version) (commits history)) name

-- the row that the stamp s sees
unfoldable pub row_seen : State → List Entry → RowName → ℕ → Option (List Cell)
row_seen start history name s = row_of_version start history name (version_at history name s)

-- ---- reads

-- a read: whose, of which row, and the version that it read
pub record VersionRead : Type 0 where
  pub reader : ℕ
  pub name : RowName
  pub version : ℕ

-- what an entry reads, over the entries before it
abbrev pub read_in : List Entry → ℕ → Event → List VersionRead
read_in before stamp (events.Begin script) = []
read_in before stamp (events.Read name) =
    record { reader = stamp; name = name; version = version_at before name stamp } ∷ []
read_in before stamp (events.Commit writes) = []
read_in before stamp events.Cancel = []

-- the reads of the entries, which follow on others
abbrev pub reads_from : List Entry → List Entry → List VersionRead
reads_from before [] = []
reads_from before (entry ∷ history) = read_in before entry.stamp entry.event
    ++ reads_from (before ++ entry ∷ []) history

-- every read, also of a transaction that was cancelled
unfoldable pub reads : List Entry → List VersionRead
reads history = reads_from [] history

-- the reads of one stamp, each with the row that it was answered
unfoldable pub answered : State → List Entry → ℕ → List (RowName × Option (List Cell))
answered start history s =
    map (λ r. (r.name, row_of_version start history r.name r.version))
    (filter (λ r. r.reader == s) (reads history))
