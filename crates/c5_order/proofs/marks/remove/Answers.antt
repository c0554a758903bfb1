use Rattle.std.proofs.Common.{◌-◌, length, drop, ap, sym, ◌∙◌}
use Rattle.c5_order.specs.Marks.{noted_mark, removed}
use Rattle.c5_order.proofs.MarkLemmas.{removed-more, one-before}
use Rattle.c5_order.proofs.marks.remove.Goals as goal

pub loop-done-preserved : goal.loop-done-preserved
loop-done-preserved c q =
    removed-more c.args.stamp c.index-writes-writes.result
    (drop (length c.args.writes.now - c.loop-done.done) c.args.writes.now) q
    (noted_mark c.args.versions.now q) (noted_mark c.loop-done.versions q)
    (noted_mark c.remove.new.self q) (c.remove.ensures.updates.0 q) (c.loop-done.invariant q)
    ∙ ap (λ ws. removed c.args.stamp ws q (noted_mark c.args.versions.now q))
    (sym (one-before c.args.writes.now c.loop-done.done c.index-writes-writes.result
    c.loop-done-test.true c.index-writes-writes.is))
