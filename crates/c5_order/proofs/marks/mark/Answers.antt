use Rattle.std.proofs.Common.{◌≡◌, ◌∙◌, cond, Some, refl, sym}
use Rattle.std.specs.BTreeMap.{is_at}
use Rattle.c5_order.specs.declared.marks.VersionKey.{VersionKey as Key}
use Rattle.c5_order.specs.Marks.{version_key_cmp, noted_mark}
use Rattle.c5_order.proofs.MarkLemmas.{marked-some, marked-none}
use Rattle.c5_order.proofs.marks.mark.Goals as goal

pub returns-in-Some-clause-ok : goal.returns-in-Some-clause-ok
returns-in-Some-clause-ok c q =
    ((c.get_mut.follows.holds c.max.result).3 (rw (← c.in-Some.ensures.value) refl)).0 q ∙
    marked-some c.args.versions.now c.args.key c.args.stamp c.in-Some.read_by.now c.max.result q
    (sym c.in-Some.ensures.value) c.max.ensures

pub returns-in_ok-insert-in-None-clause-ok : goal.returns-in_ok-insert-in-None-clause-ok
returns-in_ok-insert-in-None-clause-ok c q =
    let u : (q : Key) → noted_mark c.insert.new.self q
    ≡ cond (is_at (version_key_cmp c.args.key) q) (Some c.args.stamp)
    (noted_mark c.args.versions.now q) =
    rw (← c.get_mut.follows.holds-at-none) c.in_ok-insert-in-None.ensures.updates.0 in
    u q ∙ marked-none c.args.versions.now c.args.key c.args.stamp q (sym c.in-None.ensures.value)
