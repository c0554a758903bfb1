use Rattle.std.proofs.Common.{◌≤◌, ◌+◌, ℕ, arith, subst, sym}
use Rattle.c5_plan.specs.Searching.{IsBetween}
use Rattle.c5_plan.proofs.Ends.{place_below-is, IsBetween-begin, IsBetween-above}
use Rattle.c5_plan.proofs.planned.place_below.Goals as goal

pub loop-above-init : goal.loop-above-init
loop-above-init c = subst (λ (n : ℕ). IsBetween c.args.log.now.txns c.args.least 0 (n + 1))
    (sym c.transactions-above.ensures)
    (IsBetween-begin c.args.log.now.txns c.args.least c.requires.some)

pub loop-above-preserved : goal.loop-above-preserved
loop-above-preserved c = IsBetween-above _ _ _ _ _ c.loop-above.invariant (omega arith)
    (omega arith) (subst (λ (n : ℕ). c.args.least ≤ n) c.end.ensures c.if-end-least.false)

pub returns : goal.returns
returns c =
    place_below-is c.args.log.now.txns c.args.least c.loop-above.below c.loop-above.above
    c.loop-above.invariant (omega arith)
