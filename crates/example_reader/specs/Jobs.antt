-- The jobs of threads, and what reading beside them gives.
use Rattle.std.specs.FinMap.{empty}
use Rattle.std.specs.Prelude.{◌≡◌, ℕ, true, [], length}
use Rattle.c5_board.specs.Boards.{Board, Pass}
use Rattle.c5_definitions.specs.Replies.{reply_at}
use Rattle.c5_definitions.specs.ScriptParts.{ReadParts}
use Rattle.c5_frames.specs.Log.{Log}
use Rattle.c5_rows.specs.Numbers.{is_among}
use Rattle.c5_rows.specs.declared.answer.Reply.{Reply}
use Rattle.c5_workers.specs.Schedules.{FitsSchedule}
use Rattle.c5_workers.specs.Work.{FitsWorker}
use Rattle.example_reader.specs.declared.Job.{Job}
use Rattle.example_reader.specs.declared.Job.TheVariants.{Schedule, Install, Show}

-- the job is on this board, and its pass has the role that it needs
abbrev pub IsJob : Board → Job → Type 0
IsJob board (Schedule scheduler pass) = (pass.board ≡ board) × FitsSchedule scheduler pass
IsJob board (Install worker pass) = (pass.board ≡ board) × FitsWorker worker pass
IsJob board (Show pass) = (pass.board ≡ board) × (pass.snapshot ≡ true)

-- a pass with the scheduler role, for which nothing is scheduled
pub record IsNewSchedule (board : Board) (p : Pass) : Type 0 where
  pub board_same : p.board ≡ board
  pub role : p.scheduler ≡ true
  pub scheduled : p.scheduled ≡ 0
  pub written : p.written ≡ 0
  pub indexed : p.indexed ≡ 0

-- a pass with the role of worker i, which has installed nothing
pub record IsNewWork (board : Board) (i : ℕ) (p : Pass) : Type 0 where
  pub board_same : p.board ≡ board
  pub role : is_among i p.roles ≡ true
  pub none : p.installed ≡ []

-- the reply by the rows after all transactions of a log that begins without rows
abbrev pub last_reply : Log → ReadParts → Reply
last_reply log read = reply_at empty log.txns read (length log.txns)
