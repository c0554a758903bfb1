-- Multiversion timestamp ordering: which commits conflict, which histories it allows, and their
-- log.
use Rattle.std.specs.Prelude.{◌≡◌, ◌==◌, ◌<◌, ◌≤◌, ◌+◌, ◌^◌, ℕ, Bool, false, ◌&&◌, nat_eq, nat_lt}
use Rattle.std.specs.Prelude.{if◌then◌else◌, List, [], ◌∷◌, ◌++◌, length, filter, map, Option, Some}
use Rattle.std.specs.Prelude.{None}
use Rattle.std.specs.List.{All, Contains, IsDistinct, flat_map, list_all}
use Rattle.std.specs.Map.{lookup}
use Rattle.std.specs.Ordering.{is_eq, is_gt}
use Rattle.c5_rows.specs.declared.writes.RowName.{RowName}
use Rattle.c5_rows.specs.declared.writes.Write.{Write}
use Rattle.c5_rows.specs.declared.writes.Txn.{Txn}
use Rattle.c5_rows.specs.Order.{row_name_cmp}
use Rattle.c5_rows.specs.Writes.{IsAscending}
use Rattle.c5_definitions.specs.declared.history.Entry.{Entry}
use Rattle.c5_definitions.specs.declared.history.Event.{Event}
use Rattle.c5_definitions.specs.declared.history.Event.TheVariants as events
use Rattle.c5_definitions.specs.declared.history.OrderBase.{OrderBase}
use Rattle.c5_definitions.specs.Follows.{Follows}
use Rattle.c5_definitions.specs.Lawful.{StampsRise}
use Rattle.c5_definitions.specs.SerialRun.{body_at, serial_txns, script_numbers, AreAlike}
use Rattle.c5_definitions.specs.History.{Begun, VersionRead, begun, commits, open_txns, last_stamp}
use Rattle.c5_definitions.specs.History.{version_at, reads, answered}

-- ---- conflicts

-- a row that a transaction would write, and a later stamp that has read the version before that
-- write
pub record Conflict : Type 0 where
  pub row : RowName
  pub reader : ℕ

-- whether a later stamp than s has read this version of the row
abbrev pub reads_version : RowName → ℕ → ℕ → VersionRead → Bool
reads_version name s version r = is_eq (row_name_cmp r.name name) && nat_lt s r.reader
    && (r.version == version)

abbrev pub conflicts_on : List Entry → ℕ → Write → List Conflict
conflicts_on history s write =
    map (λ r. record { row = write.name; reader = r.reader })
    (filter (reads_version write.name s (version_at history write.name s)) (reads history))

-- all conflicts of these writes at the stamp s
unfoldable pub conflicts : List Entry → ℕ → List Write → List Conflict
conflicts history s writes = flat_map (conflicts_on history s) writes

-- one of the conflicts, with the least row, and the greatest reader of that row
pub record IsFirstConflict (all : List Conflict) (row : RowName) (reader : ℕ) : Type 0 where
  pub found : Contains all (record { row = row; reader = reader })
  pub least : All (λ c. is_gt (row_name_cmp row c.row) ≡ false) all
  pub greatest : All (λ c. c.row ≡ row → c.reader ≤ reader) all

-- ---- the committed transactions

abbrev pub txn_of : Begun → Option (List Write) → List Txn
txn_of b None = []
txn_of b (Some writes) = record { script = b.script; stamp = b.stamp; writes = writes } ∷ []

-- the committed transactions, in the order in which their stamps were begun
unfoldable pub committed : List Entry → List Txn
committed history = flat_map (λ b. txn_of b (lookup (λ stamp. stamp == b.stamp) (commits history)))
    (begun history)

-- those of them that are below every open stamp
unfoldable pub history_log : List Entry → List Txn
history_log history = filter (λ txn. list_all (λ b. nat_lt txn.stamp b.stamp) (open_txns history))
    (committed history)

-- the stamp of the committed transaction of a body, and that of an open one
abbrev pub committed_stamp : ℕ → List Txn → Option ℕ
committed_stamp script [] = None
committed_stamp script (txn ∷ txns) = if txn.script == script then Some txn.stamp
    else committed_stamp script txns

abbrev pub open_stamp : ℕ → List Begun → Option ℕ
open_stamp script [] = None
open_stamp script (b ∷ more) = if b.script == script then Some b.stamp else open_stamp script more

-- ---- what timestamp ordering allows

-- the transaction is open
abbrev pub IsOpen : List Entry → Begun → Type 0
IsOpen history b = Contains (open_txns history) b

-- the writes are those that the body of the transaction gives on its reads
abbrev pub IsOutcome : OrderBase → List Entry → Begun → List Write → Type 0
IsOutcome base history b writes = (declined : Bool)
    × Follows (body_at base.bodies b.script) (answered base.start history b.stamp) declined writes

-- the next stamp, for a body that has no open or committed one
pub record BeginsNext (base : OrderBase) (history : List Entry) (stamp : ℕ)
    (script : ℕ) : Type 0 where
  pub script_known : script < length base.bodies
  pub not_committed : committed_stamp script (committed history) ≡ None
  pub not_open : open_stamp script (open_txns history) ≡ None
  pub next : stamp ≡ last_stamp base.last history + 1
  pub fits : stamp < 2 ^ 64

-- the entry is one that timestamp ordering allows after this history
abbrev pub Allows : OrderBase → List Entry → ℕ → ℕ → Event → Type 0
Allows base history caller stamp (events.Begin script) = BeginsNext base history stamp script
Allows base history caller stamp (events.Read name) = (script : ℕ)
    × IsOpen history (record { caller = caller; stamp = stamp; script = script })
Allows base history caller stamp (events.Commit writes) =
    (script : ℕ) × IsOpen history (record { caller = caller; stamp = stamp; script = script })
    × IsOutcome base history (record { caller = caller; stamp = stamp; script = script }) writes
    × IsAscending writes × (conflicts history stamp writes ≡ [])
Allows base history caller stamp events.Cancel = (script : ℕ)
    × IsOpen history (record { caller = caller; stamp = stamp; script = script })

-- each of the entries, which follow on others, is allowed after all before it
abbrev pub AllowsFrom : OrderBase → List Entry → List Entry → Type 0
AllowsFrom base before [] = Unit {0}
AllowsFrom base before (entry ∷ history) = Allows base before entry.caller entry.stamp entry.event
    × AllowsFrom base (before ++ entry ∷ []) history

-- a history that timestamp ordering allows
unfoldable pub IsOrderHistory : OrderBase → List Entry → Type 0
IsOrderHistory base history = AllowsFrom base [] history

-- transactions whose stamps ascend from the last one before them, of bodies that each come once,
-- and with the writes that these give one after the other
pub record IsStampOrderRun (base : OrderBase) (txns : List Txn) : Type 0 where
  pub stamps : StampsRise base.last txns
  pub known : All (λ txn. txn.script < length base.bodies) txns
  pub once : IsDistinct nat_eq (script_numbers txns)
  pub alike : AreAlike txns (serial_txns base.bodies base.start (script_numbers txns))
