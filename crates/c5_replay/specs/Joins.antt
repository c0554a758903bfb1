-- What the ends of the parts come to once their passes are joined.
use Rattle.std.specs.Prelude.{◌≡◌, ◌≤◌, ◌+◌, ◌-◌, ◌++◌, ℕ, true, List, [], Some, slice_get, length}
use Rattle.std.specs.List.{flat_map, range_with_len}
use Rattle.c5_rows.specs.Numbers.{is_among, numbers_from}
use Rattle.c5_rows.specs.Sizes.{max_sessions}
use Rattle.c5_rows.specs.State.{State}
use Rattle.c5_rows.specs.declared.answer.Reply.{Reply}
use Rattle.c5_definitions.specs.Replies.{reads_of_session}
use Rattle.c5_definitions.specs.ScriptParts.{ReadParts}
use Rattle.c5_definitions.specs.WriteNumbers.{IsWrite}
use Rattle.c5_board.specs.declared.known.Look.{Look}
use Rattle.c5_board.specs.Boards.{Board, Pass, names, write_count, IsWorker}
use Rattle.c5_workers.specs.Work.{FitsWorker}
use Rattle.c5_workers.specs.declared.worker.Worker.{Worker}
use Rattle.c5_replay.specs.Answered.{AreAnswered}
use Rattle.c5_replay.specs.Parts.{IsPassWith}
use Rattle.c5_replay.specs.Replays.{HasLoadedReads}

-- the pass was joined with others: it knows no less, and their looks are added at the end
pub record IsJoined (old new : Pass) : Type 0 where
  pub of_board : new.board ≡ old.board
  pub snapshot_kept : old.snapshot ≡ true → new.snapshot ≡ true
  pub scheduler_kept : old.scheduler ≡ true → new.scheduler ≡ true
  pub scheduled_more : old.scheduled ≤ new.scheduled
  pub more : List Look
  pub looks_more : new.looks ≡ old.looks ++ more

-- the reads of the first sessions, in the order of their replies
abbrev pub reads_up_to : List ReadParts → ℕ → List ReadParts
reads_up_to reads n = flat_map (reads_of_session reads) (range_with_len 1 n)

-- the first sessions are answered, and their loads are among the looks of the pass
pub record HaveReplied (p : Pass) (start : State) (reads : List ReadParts) (n : ℕ)
    (replies : List Reply) : Type 0 where
  pub answered : AreAnswered p.board.log start (reads_up_to reads n) replies
  pub loads : (session : ℕ) → IsWorker n session → HasLoadedReads p reads replies session

-- the first workers are in order, their roles are those of the pass, and each of them fits it
pub record HaveWorked (board : Board) (p : Pass) (n : ℕ) (workers : List Worker) : Type 0 where
  pub pass_with : IsPassWith board (numbers_from 1 n) p
  pub count : length workers ≡ n
  pub order : (k : ℕ) (w : Worker) → slice_get workers k ≡ Some w → w.i ≡ k + 1
  pub each : (k : ℕ) (w : Worker) → slice_get workers k ≡ Some w → FitsWorker w p

-- all parts are joined: each write is scheduled, and each session has its replies
pub record AreAllJoined (board : Board) (start : State) (reads : List ReadParts) (p : Pass)
    (workers : List Worker) (replies : List Reply) : Type 0 where
  pub worked : HaveWorked board p board.workers workers
  pub snapshot_role : p.snapshot ≡ true
  pub scheduler_role : p.scheduler ≡ true
  pub all_scheduled : write_count board ≤ p.scheduled
  pub replied : HaveReplied p start reads max_sessions replies

-- each write is installed, and the last place is visible
pub record HasFinished (board : Board) (reads : List ReadParts) (replies : List Reply)
    (p : Pass) : Type 0 where
  pub of_board : p.board ≡ board
  pub worker_roles_all : (i : ℕ) → IsWorker board.workers i → is_among i p.roles ≡ true
  pub snapshot_role : p.snapshot ≡ true
  pub scheduler_role : p.scheduler ≡ true
  pub installed_all : (w : ℕ) → IsWrite (names board) w → is_among w p.installed ≡ true
  pub last_place : p.place ≡ length board.log.txns
  pub loads : (session : ℕ) → IsWorker max_sessions session → HasLoadedReads p reads replies session
