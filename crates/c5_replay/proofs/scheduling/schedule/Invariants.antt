use Rattle.std.proofs.Common.{◌≡◌}
use Rattle.c5_workers.specs.Schedules.{FitsSchedule}
use Rattle.c5_replay.specs.Parts.{IsPassWith}
use Rattle.c5_replay.proofs.scheduling.schedule.Given as goal

abbrev pub invariant-loop-turn : goal.invariant-loop-turn
invariant-loop-turn g l =
    record {
      pass : IsPassWith l.board l.fn.pass.roles l.pass;
      fits : FitsSchedule l.scheduler l.pass;
    }
