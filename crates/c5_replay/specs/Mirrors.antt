-- The workers of a board and a pass with all roles, and the machine of a schedule that they mirror.
use Rattle.std.specs.Prelude.{◌≡◌, ◌≤◌, ◌+◌, ℕ, true, List, length, map, nat_lt, slice_get, Some}
use Rattle.std.specs.Option.{is_some}
use Rattle.c5_rows.specs.Numbers.{is_among, numbers_from}
use Rattle.c5_rows.specs.declared.writes.RowName.{RowName}
use Rattle.c5_definitions.specs.Turns.{TurnMachine, WorkerTurns}
use Rattle.c5_definitions.specs.WriteNumbers.{owner_of, IsWrite}
use Rattle.c5_board.specs.declared.known.Look.{Look}
use Rattle.c5_board.specs.Boards.{Board, Pass, names, write_count, IsWorker}
use Rattle.c5_board.specs.Passes.{floor_of}
use Rattle.c5_workers.specs.declared.worker.Worker.{Worker}
use Rattle.c5_workers.specs.declared.work_turn.WorkTurn.{WorkTurn}
use Rattle.c5_workers.specs.declared.work_turn.WorkTurn.TheVariants.{Did, NotYet, Done}
use Rattle.c5_workers.specs.Finishing.{AreWorkersOf}
use Rattle.c5_workers.specs.Tries.{HasTried, least_of}
use Rattle.c5_replay.specs.TurnReplays.{first_found, missed_first}

-- the turns of a worker: its next number, and those that it has put off
abbrev pub turns_of : Worker → WorkerTurns
turns_of w = record { next = w.next; waiting = w.put_off.items }

-- how many writes a turn has put off
abbrev pub put_offs : WorkTurn → ℕ
put_offs Done = 0
put_offs (NotYet scheduled) = 0
put_offs (Did installed put_off) = put_off

-- the workers and what a pass has installed are those of the machine, the visible place is the
-- machine's, and so many writes were put off
pub record Mirrors (m : TurnMachine) (p : Pass) (workers : List Worker) (put_off : ℕ) : Type 0 where
  pub done : m.done ≡ p.installed
  pub workers_so : m.workers ≡ map turns_of workers
  pub place : m.place ≡ p.place
  pub count : m.put_off ≡ put_off

-- a pass of the board with all roles, for which each write is scheduled, and the workers, whose
-- progress is stored
pub record IsTurning (board : Board) (p : Pass) (workers : List Worker) : Type 0 where
  pub of_board : p.board ≡ board
  pub roles : (i : ℕ) → IsWorker board.workers i → is_among i p.roles ≡ true
  pub snapshot : p.snapshot ≡ true
  pub scheduler : p.scheduler ≡ true
  pub scheduled : write_count board ≤ p.scheduled
  pub each : AreWorkersOf p workers
  pub floors : (k : ℕ) (w : Worker) → slice_get workers k ≡ Some w
      → floor_of p (k + 1) ≡ least_of w.put_off.items w.next

-- of a worker's writes those below its next number have an exchange among the looks, and no others
abbrev pub HasLooked : List RowName → ℕ → List Look → ℕ → ℕ → Type 0
HasLooked names workers looks i next = (v : ℕ) → IsWrite names v → owner_of workers v ≡ i
    → is_some (first_found looks v) ≡ nat_lt v next

-- so many writes have missed their predecessor at first, and each worker has looked
pub record HaveMissed (p : Pass) (workers : List Worker) (put_off : ℕ) : Type 0 where
  pub count : put_off ≡ missed_first (names p.board) p.looks
  pub tried : (k : ℕ) (w : Worker) → slice_get workers k ≡ Some w
      → HasLooked (names p.board) p.board.workers p.looks (k + 1) w.next

-- ---- machines

-- the writes that are done are writes of the log, and each worker of the machine has tried those of
-- its writes that are below its next number
pub record IsMachine (workers : ℕ) (names : List RowName) (m : TurnMachine) : Type 0 where
  pub count : length m.workers ≡ workers
  pub writes : (w : ℕ) → is_among w m.done ≡ true → IsWrite names w
  pub each : (k : ℕ) (t : WorkerTurns) → slice_get m.workers k ≡ Some t
      → HasTried workers names (numbers_from 1 workers) m.done (length names) (k + 1) t.next
      t.waiting
