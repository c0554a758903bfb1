use Rattle.std.proofs.Common.{◌+◌, ◌∙◌, is_some, ap, sym, subst}
use Rattle.c5_order.specs.declared.order.OrderState.{OrderState}
use Rattle.c5_primary.proofs.FinishLemmas.{LeftSoFar, one-more-run, one-more-there}
use Rattle.c5_primary.proofs.finishing.run_left.Goals.{then-is_none+in_ok-run_one, else-is_none}
use Rattle.c5_primary.proofs.finishing.run_left.Goals as goal

pub loop-script-preserved : goal.loop-script-preserved
loop-script-preserved c =
    let l = c.loop-script.invariant in
    let start = c.args.order.now in
    let order = c.loop-script.order in
    let n = c.loop-script.script in
    let so_far : LeftSoFar start order n =
    record { goes_on = l.goes_on; ended = l.ended; last = l.last; committed = l.committed } in
    let next : LeftSoFar start c.if-is_none.order (n + 1) = elim c.if-is_none.branch [
      | then-is_none+in_ok-run_one w ↦
          let e = w.in_ok-run_one.ensures in
          subst (λ (o : OrderState). LeftSoFar start o (n + 1)) (sym w.order-is)
          (one-more-run start order w.run_one.new.order n so_far e.goes_on e.last e.ended
          e.committed)
      | else-is_none w ↦
          subst (λ (o : OrderState). LeftSoFar start o (n + 1)) (sym w.order-is)
          (one-more-there start order n so_far
          (sym (ap is_some c.committed.ensures) ∙ w.if-is_none.ensures))
    ] in
    record {
      goes_on = next.goes_on;
      ended = next.ended;
      last = next.last;
      committed = next.committed;
    }
