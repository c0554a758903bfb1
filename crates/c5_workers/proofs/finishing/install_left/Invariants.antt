use Rattle.std.proofs.Common.{◌≡◌}
use Rattle.c5_workers.specs.Finishing.{AreWorkersOf, HasInstalled}
use Rattle.c5_workers.proofs.finishing.install_left.Given as goal

abbrev pub invariant-loop-before : goal.invariant-loop-before
invariant-loop-before l =
    record {
      board : l.pass.board ≡ l.board;
      workers : AreWorkersOf l.pass l.workers;
      installed : HasInstalled l.fn.pass l.pass l.before;
    }
