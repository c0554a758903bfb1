use Rattle.std.proofs.Common.{◌∙◌}
use Rattle.c5_definitions.specs.declared.history.Event.TheVariants as events
use Rattle.c5_primary.proofs.FinishLemmas.{goes-on, one-more, cancel-fewer, cancel-last}
use Rattle.c5_primary.proofs.finishing.cancel_all.Goals as goal

pub loop-stamp-smaller : goal.loop-stamp-smaller
loop-stamp-smaller c =
    let o = (c.in-Some.ensures).0 in
    cancel-fewer c.loop-stamp.order c.cancel.new.self o.0 c.in-Some.stamp
    (o.1, o.2, c.cancel.ensures o.0 o.1 o.2)

pub loop-stamp-preserved : goal.loop-stamp-preserved
loop-stamp-preserved c =
    let o = (c.in-Some.ensures).0 in
    let order = c.loop-stamp.order in
    let new = c.cancel.new.self in
    let is = c.cancel.ensures o.0 o.1 o.2 in (
      goes-on c.args.order.now order new c.loop-stamp.invariant.0
          (one-more order new
          (record { caller = o.0.caller; stamp = c.in-Some.stamp; event = events.Cancel }) is),
      cancel-last order new o.0 c.in-Some.stamp (o.1, o.2, is) ∙ c.loop-stamp.invariant.1,
    )
