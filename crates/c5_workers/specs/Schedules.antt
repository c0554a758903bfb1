-- When a scheduler fits a pass, and what its calls come to.
use Rattle.std.specs.Prelude.{◌≡◌, ◌≤◌, ◌<◌, ◌+◌, ◌++◌, ℕ, true, List}
use Rattle.c5_definitions.specs.WriteNumbers.{IsFirstWrite}
use Rattle.c5_definitions.specs.WriteNumbers.{row_count}
use Rattle.c5_board.specs.declared.known.Look.{Look}
use Rattle.c5_board.specs.Boards.{Board, Pass, names, write_count}
use Rattle.c5_board.specs.Loads.{AreLoads}
use Rattle.c5_workers.specs.declared.scheduler.Scheduler.{Scheduler}
use Rattle.c5_workers.specs.declared.schedule_turn.ScheduleTurn.{ScheduleTurn}
use Rattle.c5_workers.specs.declared.schedule_turn.ScheduleTurn.TheVariants as turns
use Rattle.c5_workers.specs.declared.schedule_turn.ScheduleEnd.{ScheduleEnd}
use Rattle.c5_workers.specs.declared.schedule_turn.ScheduleEnd.TheVariants as ends
use Rattle.c5_workers.specs.Scheduling.{first_write_count, IsLastOfEach, LooksUp, indexed_with}
use Rattle.c5_rows.specs.Sizes.{max_rows}

-- the scheduler keeps what is scheduled, as the pass knows, the last number of each row up to
-- there, and the number of rows
pub record FitsSchedule (s : Scheduler) (p : Pass) : Type 0 where
  pub role : p.scheduler ≡ true
  pub scheduled : s.scheduled ≡ p.scheduled
  pub last : IsLastOfEach (names p.board) s.last.items p.scheduled
  pub rows : s.rows ≡ first_write_count (names p.board) p.scheduled
  pub few : s.rows ≤ max_rows
  pub written : p.written ≡ p.scheduled
  pub indexed : p.indexed ≤ p.scheduled

-- it fits each pass of the board with the scheduler role for which nothing is scheduled
abbrev pub FitsNew : Scheduler → Board → Type 0
FitsNew s board = (p : Pass) → p.board ≡ board → p.scheduler ≡ true → p.scheduled ≡ 0
    → p.written ≡ 0 → p.indexed ≡ 0 → FitsSchedule s p

-- 65,536 rows are scheduled, and the next write is the first of another one
pub record IsFullOfRows (p : Pass) : Type 0 where
  pub first : IsFirstWrite (names p.board) (p.scheduled + 1)
  pub full : first_write_count (names p.board) p.scheduled ≡ max_rows

-- w, the next write, is scheduled: after its path was followed, its row is in the index, and its
-- record is stored
pub record Schedules (old new : Pass) (w : ℕ) : Type 0 where
  pub next : w ≡ old.scheduled + 1
  pub within : w ≤ write_count old.board
  pub few : IsFirstWrite (names old.board) w
      → first_write_count (names old.board) old.scheduled < max_rows
  pub found : Pass
  pub looks : LooksUp old found w
  pub pass : new
      ≡ record found {
        indexed = indexed_with (names old.board) w found.indexed;
        written = w;
        scheduled = w;
      }

abbrev pub TakesTurn : Pass → Pass → ScheduleTurn → Type 0
TakesTurn old new turns.Done = (old.scheduled ≡ write_count old.board) × (new ≡ old)
TakesTurn old new turns.Rows = IsFullOfRows old × LooksUp old new (old.scheduled + 1)
TakesTurn old new (turns.Did w) = Schedules old new w

-- each write is scheduled, and the log has as many rows as there may be or fewer; or it has more,
-- and the next write is the first of one row too many
abbrev pub IsEnd : Pass → ScheduleEnd → Type 0
IsEnd p ends.Done = (p.scheduled ≡ write_count p.board) × (row_count (names p.board) ≤ max_rows)
IsEnd p ends.Rows = IsFullOfRows p × (max_rows < row_count (names p.board))

-- only what the scheduler role knows has changed, and loads were added at the end
pub record OnlySchedules (old new : Pass) : Type 0 where
  pub rest : new ≡ record old {
    written = new.written;
    indexed = new.indexed;
    scheduled = new.scheduled;
    looks = new.looks;
  }
  pub scheduled : old.scheduled ≤ new.scheduled
  pub more : List Look
  pub looks : new.looks ≡ old.looks ++ more
  pub loads : AreLoads more

pub record SchedulesAll (old new : Pass) (end : ScheduleEnd) : Type 0 where
  pub only : OnlySchedules old new
  pub is_end : IsEnd new end
