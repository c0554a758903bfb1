-- What an order book holds of its history.
use Rattle.std.specs.Prelude.{◌≡◌, ◌<◌, ◌≤◌, ◌+◌, ◌==◌, ◌&&◌, ◌⊎◌, ℕ, Bool, true, false, not, max}
use Rattle.std.specs.Prelude.{List, [], ◌∷◌, ◌++◌, length, map, Option, Some, None, is_some}
use Rattle.std.specs.Prelude.{unwrap_or, slice_get, slice_index_or, vec_len, vec_capacity}
use Rattle.std.specs.Prelude.{if◌then◌else◌}
use Rattle.std.specs.List.{All, AllZip, Contains, flat_map}
use Rattle.std.specs.Map.{lookup}
use Rattle.std.specs.Ordering.{nat_cmp, is_eq}
use Rattle.std.specs.BTreeMap.{BTreeMap}
use Rattle.std.specs.BTreeSet.{contains}
use Rattle.c5_rows.specs.declared.writes.RowName.{RowName}
use Rattle.c5_rows.specs.declared.writes.Write.{Write}
use Rattle.c5_rows.specs.declared.writes.Txn.{Txn}
use Rattle.c5_rows.specs.declared.cells.Cell.{Cell}
use Rattle.c5_rows.specs.declared.writes.Change.{Change}
use Rattle.c5_rows.specs.Order.{row_name_cmp}
use Rattle.c5_rows.specs.Sizes.{max_transactions}
use Rattle.c5_rows.specs.Writes.{change_of}
use Rattle.c5_definitions.specs.declared.history.Entry.{Entry}
use Rattle.c5_definitions.specs.declared.history.Event.{Event}
use Rattle.c5_definitions.specs.declared.history.Event.TheVariants as events
use Rattle.c5_definitions.specs.declared.history.OrderBase.{OrderBase}
use Rattle.c5_definitions.specs.History.{Begun, VersionRead, begun, commits, ended_stamps}
use Rattle.c5_definitions.specs.History.{last_stamp}
use Rattle.c5_definitions.specs.History.{open_txns, reads, row_left, writes_row}
use Rattle.c5_rows.specs.Numbers.{is_among}
use Rattle.c5_definitions.specs.OrderLog.{IsOpen, IsOrderHistory}
use Rattle.c5_order.specs.declared.marks.VersionKey.{VersionKey}
use Rattle.c5_order.specs.declared.book.TxnState.{TxnState}
use Rattle.c5_order.specs.declared.book.BodyState.{BodyState}
use Rattle.c5_order.specs.declared.book.BodyState.TheVariants.{Free, Open, Committed}
use Rattle.c5_order.specs.declared.book.Book.{Book}
use Rattle.c5_order.specs.Marks.{version_key, noted_mark}

abbrev pub writes_of_stamp : ℕ → List Entry → Option (List Write)
writes_of_stamp s history = lookup (λ stamp. stamp == s) (commits history)

-- ---- transactions

-- where the commit of a stamp is
abbrev pub HoldsPlace : List Entry → ℕ → Option ℕ → Type 0
HoldsPlace history s None = writes_of_stamp s history ≡ None
HoldsPlace history s (Some place) =
    (caller : ℕ) × (writes : List Write)
    × (slice_get history place
    ≡ Some (record { caller = caller; stamp = s; event = events.Commit writes }))
    × (writes_of_stamp s history ≡ Some writes)

pub record HoldsTxn (history : List Entry) (b : Begun) (t : TxnState) : Type 0 where
  pub caller : t.caller ≡ b.caller
  pub script : t.script ≡ b.script
  pub place : HoldsPlace history b.stamp t.place

-- whether the stamp is open
abbrev pub is_open : ℕ → List Entry → Bool
is_open s history = is_among s (map (λ b. b.stamp) (begun history))
    && not (is_among s (ended_stamps history))

-- open or committed
abbrev pub IsLiveTxn : List Entry → Begun → Type 0
IsLiveTxn history b = Contains (begun history) b
    × ((is_among b.stamp (ended_stamps history) ≡ false)
    ⊎ ((writes : List Write) × (writes_of_stamp b.stamp history ≡ Some writes)))

-- what became of a body
abbrev pub HoldsState : List Entry → ℕ → BodyState → Type 0
HoldsState history script Free = (b : Begun) → IsLiveTxn history b → b.script ≡ script → ⊥
HoldsState history script (Open s) = (b : Begun) × IsOpen history b × (b.script ≡ script)
    × (b.stamp ≡ s)
HoldsState history script (Committed s) =
    (b : Begun) × Contains (begun history) b × (b.script ≡ script) × (b.stamp ≡ s)
    × ((writes : List Write) × (writes_of_stamp s history ≡ Some writes))

-- ---- versions

-- whether the commit of a stamp wrote the row
abbrev pub wrote_row : RowName → Option (List Write) → Bool
wrote_row name None = false
wrote_row name (Some writes) = writes_row name writes

-- the greatest stamp that has read a version; 0 if none has
abbrev pub greatest_reader : RowName → ℕ → List VersionRead → ℕ
greatest_reader name version [] = 0
greatest_reader name version (r ∷ rs) =
    if is_eq (row_name_cmp r.name name) && r.version == version
    then max r.reader (greatest_reader name version rs) else greatest_reader name version rs

pub record HoldsMarks (history : List Entry) (versions : BTreeMap VersionKey ℕ) : Type 0 where
  pub written : (name : RowName) (s : ℕ) → 1 ≤ s
      → is_some (noted_mark versions (version_key name s))
      ≡ wrote_row name (writes_of_stamp s history)
  pub readers : (name : RowName) (s : ℕ) → unwrap_or (noted_mark versions (version_key name s)) 0
      ≡ greatest_reader name s (reads history)

-- ---- the whole

abbrev pub base_of : Book → OrderBase
base_of book = record { bodies = book.bodies.now; start = book.start; last = book.first }

-- the parts are what the history says of them, and the history has room for the end of each open
-- transaction
pub record HoldsBook (book : Book) : Type 0 where
  pub allowed : IsOrderHistory (base_of book) book.history.items
  pub last : book.last ≡ last_stamp book.first book.history.items
  pub txns : AllZip (HoldsTxn book.history.items) (begun book.history.items) book.txns.items
  pub opened : (s : ℕ) → contains nat_cmp book.open_stamps s ≡ is_open s book.history.items
  pub room : length book.open_stamps.keys + vec_len book.history ≤ vec_capacity book.history
  pub few : length book.bodies.now ≤ max_transactions
  pub count : length book.states.items ≡ length book.bodies.now
  pub states : (n : ℕ) → n < length book.bodies.now
      → HoldsState book.history.items n (slice_index_or book.states.items n Free)
  pub marks : HoldsMarks book.history.items book.versions

-- ---- rows of versions

-- the row that a change leaves, if there is one
abbrev pub row_after : Option Change → Option (List Cell)
row_after None = None
row_after (Some change) = row_left change

abbrev pub left_by_event : Event → RowName → Option (List Cell)
left_by_event (events.Begin script) name = None
left_by_event (events.Read row) name = None
left_by_event (events.Commit writes) name = row_after (change_of name writes)
left_by_event events.Cancel name = None

-- what an entry left of a row
abbrev pub left_at : Option Entry → RowName → Option (List Cell)
left_at None name = None
left_at (Some entry) name = left_by_event entry.event name

-- ---- the log

abbrev pub committed_by : ℕ → Entry → Event → List Txn
committed_by script entry (events.Begin other) = []
committed_by script entry (events.Read name) = []
committed_by script entry (events.Commit writes) =
    record { script = script; stamp = entry.stamp; writes = writes } ∷ []
committed_by script entry events.Cancel = []

-- the transaction that an entry committed
abbrev pub committed_at_entry : Option Entry → ℕ → List Txn
committed_at_entry None script = []
committed_at_entry (Some entry) script = committed_by script entry entry.event

abbrev pub committed_at : List Entry → ℕ → ℕ → List Txn
committed_at history place script = committed_at_entry (slice_get history place) script

abbrev pub logged_one : List Entry → ℕ → Option ℕ → List Txn
logged_one history script None = []
logged_one history script (Some place) = committed_at history place script

-- those of the transactions that are noted as committed
abbrev pub logged : List Entry → List TxnState → List Txn
logged history states = flat_map (λ t. logged_one history t.script t.place) states

-- so many transactions were begun before the least open one; all of them if none is open
abbrev pub IsClosedCount : Book → ℕ → Type 0
IsClosedCount book n =
    ((open_txns book.history.items ≡ []) × (n ≡ length book.txns.items))
    ⊎ ((s : ℕ) × (n + 1 + book.first ≡ s)
    × ((b : Begun) × IsOpen book.history.items b × (b.stamp ≡ s))
    × All (λ b. s ≤ b.stamp) (open_txns book.history.items))
