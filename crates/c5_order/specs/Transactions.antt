-- What more entries leave of the transactions of a history.
use Rattle.std.specs.Prelude.{◌≡◌, ◌≢◌, ◌≤◌, ◌==◌, ℕ, List, [], ◌∷◌, ◌++◌, not, filter, IsSome}
use Rattle.std.specs.List.{All}
use Rattle.c5_rows.specs.declared.writes.RowName.{RowName}
use Rattle.c5_rows.specs.declared.writes.Write.{Write}
use Rattle.c5_rows.specs.State.{State}
use Rattle.c5_definitions.specs.declared.history.Entry.{Entry}
use Rattle.c5_definitions.specs.declared.history.Event.{Event}
use Rattle.c5_definitions.specs.declared.history.Event.TheVariants as events
use Rattle.c5_definitions.specs.declared.history.OrderBase.{OrderBase}
use Rattle.c5_definitions.specs.History.{Begun, answered, last_stamp, open_txns, row_seen}
use Rattle.c5_definitions.specs.OrderLog.{IsOpen, IsOrderHistory, committed, committed_stamp}
use Rattle.c5_definitions.specs.OrderLog.{conflicts}

-- the history with one more entry of a transaction
abbrev pub with_event : List Entry → Begun → Event → List Entry
with_event history b event =
    history ++ record { caller = b.caller; stamp = b.stamp; event = event } ∷ []

-- a transaction that has begun is open, after all others, and has read nothing
abbrev pub BeginsUnread : Type 0
BeginsUnread = (base : OrderBase) (history : List Entry) (b : Begun)
    → IsOrderHistory base (with_event history b (events.Begin b.script))
    → IsOpen (with_event history b (events.Begin b.script)) b
    × (answered base.start (with_event history b (events.Begin b.script)) b.stamp ≡ [])
    × (open_txns (with_event history b (events.Begin b.script)) ≡ open_txns history ++ b ∷ [])
    × (last_stamp base.last (with_event history b (events.Begin b.script)) ≡ b.stamp)

-- a read adds its answer, and ends no transaction
abbrev pub ReadAdds : Type 0
ReadAdds = (start : State) (history : List Entry) (b : Begun) (name : RowName) → IsOpen history b
    → IsOpen (with_event history b (events.Read name)) b
    × (answered start (with_event history b (events.Read name)) b.stamp
    ≡ answered start history b.stamp ++ (name, row_seen start history name b.stamp) ∷ [])
    × (open_txns (with_event history b (events.Read name)) ≡ open_txns history)
    × ((last : ℕ) → last_stamp last (with_event history b (events.Read name))
    ≡ last_stamp last history)
    × (committed (with_event history b (events.Read name)) ≡ committed history)

-- entries of other callers leave a transaction open, and what it was answered
abbrev pub OthersKeep : Type 0
OthersKeep = (base : OrderBase) (history more : List Entry) (b : Begun)
    → IsOrderHistory base (history ++ more) → IsOpen history b
    → All (λ e. e.caller ≢ b.caller) more
    → IsOpen (history ++ more) b
    × (answered base.start (history ++ more) b.stamp ≡ answered base.start history b.stamp)

-- the transactions that are still open once a stamp has ended
abbrev pub open_without : ℕ → List Entry → List Begun
open_without stamp history = filter (λ b. not (b.stamp == stamp)) (open_txns history)

-- a commit or a cancel ends its own transaction alone
abbrev pub EndsOne : Type 0
EndsOne = (history : List Entry) (b : Begun) (writes : List Write)
    → (open_txns (with_event history b (events.Commit writes)) ≡ open_without b.stamp history)
    × (open_txns (with_event history b events.Cancel) ≡ open_without b.stamp history)
    × ((last : ℕ) → last_stamp last (with_event history b (events.Commit writes))
    ≡ last_stamp last history)
    × ((last : ℕ) → last_stamp last (with_event history b events.Cancel)
    ≡ last_stamp last history)

-- the greatest stamp has no conflict
abbrev pub LastIsFree : Type 0
LastIsFree = (base : OrderBase) (history : List Entry) (stamp : ℕ) (writes : List Write)
    → IsOrderHistory base history → last_stamp base.last history ≤ stamp
    → conflicts history stamp writes ≡ []

-- a body that is committed stays so, and one whose transaction commits is
abbrev pub CommitsStay : Type 0
CommitsStay = (history more : List Entry) (script : ℕ)
    → IsSome (committed_stamp script (committed history))
    → IsSome (committed_stamp script (committed (history ++ more)))

abbrev pub CommitCounts : Type 0
CommitCounts = (history : List Entry) (b : Begun) (writes : List Write) → IsOpen history b
    → IsSome (committed_stamp b.script (committed (with_event history b (events.Commit writes))))
