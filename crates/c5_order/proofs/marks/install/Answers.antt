use Rattle.std.proofs.Common.{◌≡◌, ◌-◌, None, length, drop, ap, sym, subst, ◌∙◌}
use Rattle.std.specs.BTreeMap.{is_at}
use Rattle.std.specs.Map.{lookup}
use Rattle.c5_order.specs.Marks.{version_key_cmp, noted_mark, mark_after_install, removed}
use Rattle.c5_order.specs.Marks.{version_key}
use Rattle.c5_order.proofs.MarkLemmas.{installed-more, undone, one-before, slice-to-end}
use Rattle.c5_order.proofs.marks.install.Goals as goal

pub returns-in-Err-clause-err : goal.returns-in-Err-clause-err
returns-in-Err-clause-err c q =
    c.remove.ensures.removed q
    ∙ ap (λ ws. removed c.args.stamp ws q (noted_mark c.insert.new.self q))
    (slice-to-end c.args.writes.now (length c.args.writes.now - c.loop-done.done))
    ∙ undone c.args.stamp (drop (length c.args.writes.now - c.loop-done.done) c.args.writes.now) q
    (noted_mark c.args.versions.now q) (noted_mark c.insert.new.self q)
    (λ same. subst (λ w. noted_mark c.args.versions.now (version_key q.name w) ≡ None) (sym same)
    (c.requires q.name))
    (ap (λ es. lookup (is_at (version_key_cmp q)) es) c.in-Err.ensures.err ∙ c.loop-done.invariant
    q)

pub loop-done-preserved : goal.loop-done-preserved
loop-done-preserved c q =
    installed-more c.args.stamp c.index-writes-writes.result
    (drop (length c.args.writes.now - c.loop-done.done) c.args.writes.now) q
    (noted_mark c.args.versions.now q) (noted_mark c.loop-done.versions q)
    (noted_mark c.insert.new.self q) (c.in-Ok.ensures.updates.0 q) (c.loop-done.invariant q)
    ∙ ap (λ ws. mark_after_install c.args.stamp ws q (noted_mark c.args.versions.now q))
    (sym (one-before c.args.writes.now c.loop-done.done c.index-writes-writes.result
    c.loop-done-test.true c.index-writes-writes.is))
