use Rattle.std.proofs.Common.{◌≡◌, ◌<◌, true}
use Rattle.c5_replay.specs.Parts.{IsPassWith}
use Rattle.c5_replay.proofs.showing.show.Given as goal

abbrev pub invariant-loop-turn : goal.invariant-loop-turn
invariant-loop-turn g l =
    record {
      pass : IsPassWith l.board l.fn.pass.roles l.pass;
      role : l.pass.snapshot ≡ true;
      stalled : l.stalled < 1000;
    }
