-- What the calls of an order book answer.
use Rattle.std.specs.Prelude.{◌≡◌, ◌≤◌, ◌+◌, ◌-◌, ◌^◌, ◌==◌, ℕ, List, [], ◌∷◌, ◌++◌, Option, Some}
use Rattle.std.specs.Prelude.{None, Result, Ok, Err, if◌then◌else◌}
use Rattle.std.specs.List.{All}
use Rattle.c5_rows.specs.declared.writes.Write.{Write}
use Rattle.c5_definitions.specs.declared.history.Entry.{Entry}
use Rattle.c5_definitions.specs.declared.history.Event.TheVariants as events
use Rattle.c5_definitions.specs.History.{Begun, open_txns, last_stamp}
use Rattle.c5_definitions.specs.OrderLog.{conflicts, committed, committed_stamp, open_stamp, IsOpen}
use Rattle.c5_definitions.specs.OrderLog.{IsFirstConflict}
use Rattle.c5_order.specs.declared.answers.BeginFault.{BeginFault}
use Rattle.c5_order.specs.declared.answers.BeginFault.TheVariants as faults
use Rattle.c5_order.specs.declared.answers.Decision.{Decision}
use Rattle.c5_order.specs.declared.answers.Decision.TheVariants as decisions

-- the next stamp, unless the body is committed, or is open, or there is no stamp left
abbrev pub begin_entry : Option ℕ → Option ℕ → ℕ → Result ℕ BeginFault
begin_entry (Some stamp) opened last = Err (faults.Committed stamp)
begin_entry None (Some stamp) last = Err (faults.Began stamp)
begin_entry None None last = if last == 2 ^ 64 - 1 then Err (faults.Stamps last) else Ok (last + 1)

-- what `begin` answers if memory is available
abbrev pub begin_answer : ℕ → List Entry → ℕ → Result ℕ BeginFault
begin_answer last history script =
    begin_entry (committed_stamp script (committed history)) (open_stamp script (open_txns history))
    (last_stamp last history)

-- it commits if there is no conflict; else it names the least row and the greatest reader of that
-- row
abbrev pub IsDecision : List Entry → ℕ → List Write → Decision → Type 0
IsDecision history stamp writes decisions.Committed = conflicts history stamp writes ≡ []
IsDecision history stamp writes (decisions.Conflict row reader) =
    IsFirstConflict (conflicts history stamp writes) row reader

-- the least stamp of the open transactions
abbrev pub IsLeastOpen : List Entry → Option ℕ → Type 0
IsLeastOpen history None = open_txns history ≡ []
IsLeastOpen history (Some stamp) = ((b : Begun) × IsOpen history b × (b.stamp ≡ stamp))
    × All (λ b. stamp ≤ b.stamp) (open_txns history)

-- a commit adds its entry, and a conflict adds none
abbrev pub after_decision : Begun → List Write → Decision → List Entry → List Entry
after_decision b writes decisions.Committed history =
    history ++ record { caller = b.caller; stamp = b.stamp; event = events.Commit writes } ∷ []
after_decision b writes (decisions.Conflict row reader) history = history
