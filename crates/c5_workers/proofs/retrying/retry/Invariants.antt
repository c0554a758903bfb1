use Rattle.std.proofs.Common.{◌≡◌}
use Rattle.c5_workers.specs.Tries.{IsRetrying}
use Rattle.c5_workers.proofs.retrying.retry.Given as goal

abbrev pub invariant-loop-place : goal.invariant-loop-place
invariant-loop-place l =
    record {
      board : l.pass.board ≡ l.board;
      retrying : IsRetrying l.fn.pass l.pass l.i l.next l.fn.list l.list l.place l.kept;
    }
