use Rattle.std.proofs.Common.{◌≡◌}
use Rattle.c5_workers.specs.Finishing.{AreWorkersOf, HasStored}
use Rattle.c5_workers.proofs.finishing.store_all.Given as goal

abbrev pub invariant-loop-worker : goal.invariant-loop-worker
invariant-loop-worker l =
    record {
      board : l.pass.board ≡ l.board;
      workers : AreWorkersOf l.pass l.workers;
      stored : HasStored l.fn.pass l.pass l.worker-index;
    }
