-- The sessions of threads.
use Rattle.std.specs.Prelude.{◌≡◌, ◌<◌, ℕ, List, [], length, All, Result, Ok, Err, IfOk}
use Rattle.std.specs.Prelude.{slice_index_or}
use Rattle.c5_definitions.specs.declared.history.Entry.{Entry}
use Rattle.c5_definitions.specs.declared.history.OrderBase.{OrderBase}
use Rattle.c5_rows.specs.declared.memory.NoMemory.{NoMemory}
use Rattle.c5_order.specs.declared.order.Order.{Order}
use Rattle.turn_slot.specs.declared.slot.TurnSlot.{TurnSlot}
use Rattle.c5_primary.specs.declared.state.SessionState.{SessionState}
use Rattle.c5_primary.specs.declared.threads.Job.{Job}
use Rattle.c5_primary.specs.Slots.{IsSessionOf}
use Rattle.c5_primary.specs.Running.{IsSameCaller}

-- the numbers of a job's pass
abbrev pub session_numbers : Job → List ℕ
session_numbers job = job.session.numbers

abbrev pub AreSessionsOf : TurnSlot Order OrderBase Entry → List Job → Type 0
AreSessionsOf slot jobs = All (λ job. IsSessionOf slot job.session) jobs

-- what a thread gave back
abbrev pub done_numbers : Result SessionState NoMemory → List ℕ
done_numbers (Ok s) = s.numbers
done_numbers (Err e) = []

-- each job was done, or ran out of memory
pub record AreDone (jobs : List Job) (done : List (Result SessionState NoMemory)) : Type 0 where
  pub long : length done ≡ length jobs
  pub each : (i : ℕ) (d : Job) (e : Result SessionState NoMemory) → i < length jobs
      → IfOk (slice_index_or done i e) (λ s. IsSameCaller (slice_index_or jobs i d).session s)

abbrev pub AreDoneOf : TurnSlot Order OrderBase Entry → List (Result SessionState NoMemory) → Type 0
AreDoneOf slot done = All (λ r. IfOk r (IsSessionOf slot)) done
