use Rattle.std.proofs.Common.{◌-◌}
use Rattle.c5_plan.specs.Searching.{IsBetween}
use Rattle.c5_plan.proofs.planned.place_below.Given as goal

abbrev pub invariant-loop-above : goal.invariant-loop-above
invariant-loop-above l = IsBetween l.log.txns l.least l.below l.above

abbrev pub decreases-loop-above : goal.decreases-loop-above
decreases-loop-above l = l.above - l.below
