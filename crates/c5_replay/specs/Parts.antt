-- The parts of a replay, each with its pass: before they run, and after.
use Rattle.std.specs.Prelude.{◌≡◌, ◌≤◌, ◌++◌, ℕ, true, List, [], ◌∷◌, IfOk, Result, map}
use Rattle.std.specs.List.{AllByRecursion, range_with_len}
use Rattle.c5_rows.specs.State.{State}
use Rattle.c5_rows.specs.declared.memory.NoMemory.{NoMemory}
use Rattle.c5_definitions.specs.Replies.{reads_of_session}
use Rattle.c5_definitions.specs.ScriptParts.{ReadParts}
use Rattle.c5_io.specs.declared.gate.Role.{Role}
use Rattle.c5_io.specs.declared.gate.Role.TheVariants as roles
use Rattle.c5_board.specs.Boards.{Board, Pass}
use Rattle.c5_workers.specs.Schedules.{FitsSchedule}
use Rattle.c5_workers.specs.Work.{FitsWorker}
use Rattle.c5_replay.specs.declared.part.Part.{Part}
use Rattle.c5_replay.specs.declared.part.Part.TheVariants as parts
use Rattle.c5_replay.specs.Answered.{HasAnswered}

-- a pass of this board, with the roles of these workers
pub record IsPassWith (board : Board) (numbers : List ℕ) (p : Pass) : Type 0 where
  pub of_board : p.board ≡ board
  pub roles_so : p.roles ≡ numbers

-- the role that a part has
abbrev pub role_of : Part → Role
role_of (parts.Scheduler pass scheduler) = roles.Scheduler
role_of (parts.Worker i pass worker) = roles.Worker i
role_of (parts.Snapshot pass) = roles.Snapshot
role_of (parts.Session session pass replies) = roles.Session session

-- the part has its role in a pass of the board, and a session has answered its reads among these
abbrev pub Plays : Board → State → List ReadParts → Part → Type 0
Plays board start reads (parts.Scheduler pass scheduler) = IsPassWith board [] pass
    × FitsSchedule scheduler pass
Plays board start reads (parts.Worker i pass worker) = IsPassWith board (i ∷ []) pass
    × FitsWorker worker pass
Plays board start reads (parts.Snapshot pass) = IsPassWith board [] pass × (pass.snapshot ≡ true)
Plays board start reads (parts.Session session pass replies) = IsPassWith board [] pass
    × HasAnswered pass start (reads_of_session reads session) replies.items

-- no read has been answered
abbrev pub ArePlaying : Board → State → List Part → Type 0
ArePlaying board start parts = AllByRecursion (Plays board start []) parts

-- no read is of a session above this one
abbrev pub HaveSessionsUpTo : ℕ → List ReadParts → Type 0
HaveSessionsUpTo sessions reads = AllByRecursion (λ (read : ReadParts). read.session ≤ sessions) reads

-- the roles of a replay: the scheduler, the snapshotter, the sessions and the workers
abbrev pub session_roles : ℕ → List Role
session_roles sessions = map roles.Session (range_with_len 1 sessions)

abbrev pub worker_roles : ℕ → List Role
worker_roles workers = map roles.Worker (range_with_len 1 workers)

abbrev pub all_roles : ℕ → ℕ → List Role
all_roles sessions workers =
    roles.Scheduler ∷ roles.Snapshot ∷ session_roles sessions ++ worker_roles workers

-- the part has ended in this role, unless it ran out of memory
abbrev pub HasEnded : Board → State → List ReadParts → Role → Result Part NoMemory → Type 0
HasEnded board start reads role end =
    IfOk end (λ part. (role_of part ≡ role) × Plays board start reads part)

-- each part has ended in its role
abbrev pub HaveEnded : Board → State → List ReadParts → List Role → List (Result Part NoMemory)
    → Type 0
HaveEnded board start reads [] [] = Unit {0}
HaveEnded board start reads [] (end ∷ ends) = ⊥
HaveEnded board start reads (role ∷ roles) [] = ⊥
HaveEnded board start reads (role ∷ roles) (end ∷ ends) = HasEnded board start reads role end
    × HaveEnded board start reads roles ends

-- the next end is that of this role
abbrev pub IsNextEnd : Board → State → List ReadParts → Role → List (Result Part NoMemory) → Type 0
IsNextEnd board start reads role [] = ⊥
IsNextEnd board start reads role (end ∷ ends) = HasEnded board start reads role end
