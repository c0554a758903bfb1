use Rattle.std.proofs.Common.{◌≡◌, ◌≤◌, true}
use Rattle.c5_snapshot.specs.Loading.{HasLoaded}
use Rattle.c5_snapshot.proofs.advancing.load_least.Given as goal

abbrev pub invariant-loop-before : goal.invariant-loop-before
invariant-loop-before l =
    record {
      loaded : HasLoaded l.fn.pass l.pass l.before l.least;
      board : l.pass.board ≡ l.board;
      role : l.pass.snapshot ≡ true;
    }
