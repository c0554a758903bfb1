use Rattle.std.proofs.Common.{◌≡◌, ◌-◌}
use Rattle.c5_board.specs.Boards.{write_count}
use Rattle.c5_workers.specs.Schedules.{FitsSchedule, OnlySchedules}
use Rattle.c5_workers.proofs.scheduling.schedule_all.Given as goal

abbrev pub invariant-loop : goal.invariant-loop
invariant-loop l =
    record {
      board : l.pass.board ≡ l.board;
      fits : FitsSchedule l.scheduler l.pass;
      only : OnlySchedules l.fn.pass l.pass;
    }

abbrev pub decreases-loop : goal.decreases-loop
decreases-loop l = write_count l.board - l.pass.scheduled
