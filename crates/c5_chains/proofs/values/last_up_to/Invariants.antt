use Rattle.std.proofs.Common.{◌≡◌, ◌≤◌}
use Rattle.c5_chains.specs.Chains.{IsWalkingDown}
use Rattle.c5_chains.proofs.values.last_up_to.Given as goal

abbrev pub invariant-loop-w : goal.invariant-loop-w
invariant-loop-w l =
    record {
      board : l.pass.board ≡ l.board;
      scheduled : l.w ≤ l.pass.scheduled;
      down : IsWalkingDown l.fn.pass l.pass l.row l.end l.w;
    }

abbrev pub decreases-loop-w : goal.decreases-loop-w
decreases-loop-w l = l.w
