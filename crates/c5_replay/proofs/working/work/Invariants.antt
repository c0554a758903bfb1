use Rattle.std.proofs.Common.{◌≡◌, ◌<◌, [], ◌∷◌}
use Rattle.c5_workers.specs.Work.{FitsWorker}
use Rattle.c5_replay.specs.Parts.{IsPassWith}
use Rattle.c5_replay.proofs.working.work.Given as goal

abbrev pub invariant-loop-turn : goal.invariant-loop-turn
invariant-loop-turn g l =
    record {
      pass : IsPassWith l.board (l.i ∷ []) l.pass;
      fits : FitsWorker l.worker l.pass;
      stalled : l.stalled < 1000;
    }
