use Rattle.std.proofs.Common.{◌≡◌, length}
use Rattle.c5_definitions.specs.History.{last_stamp, open_txns}
use Rattle.c5_primary.specs.Finishing.{GoesOn}
use Rattle.c5_primary.proofs.finishing.cancel_all.Given as goal

abbrev pub decreases-loop-stamp : goal.decreases-loop-stamp
decreases-loop-stamp l = length (open_txns l.order.history)

abbrev pub invariant-loop-stamp : goal.invariant-loop-stamp
invariant-loop-stamp l = GoesOn l.initial.order l.order
    × (last_stamp l.order.base.last l.order.history
    ≡ last_stamp l.initial.order.base.last l.initial.order.history)
