use Rattle.std.proofs.Common.{◌≡◌, ◌∙◌, ap, sym, rules, arith, Greater, Less, Equal}
use Rattle.std.specs.List.{HoldsAt}
use Rattle.std.specs.List.Sorted.{IsNonDecreasingBy, IsPartitionPoint}
use Rattle.std.specs.Ordering.{ordering_index, is_gt}
use Rattle.std.proofs.lemmas.List.Sorted.{answers_always}
use Rattle.c5_rows.specs.Order.{row_name_cmp}
use Rattle.c5_rows.proofs.WriteLemmas.{above_last, searchable, searched, gt_greater}
use Rattle.c5_rows.proofs.writes.place_of.Goals as goal

pub returns-then-is_gt-clause-place : goal.returns-then-is_gt-clause-place
returns-then-is_gt-clause-place c =
    let last = c.in-Some.ensures.item.3 in
    let e : row_name_cmp c.args.name.now c.in-Some.last.now.name ≡ Greater =
    gt_greater _ (ap is_gt (sym c.cmp.ensures) ∙ sym c.is_gt.ensures ∙ c.if-is_gt.true) in (
      above_last c.args.name.now c.args.writes.now c.requires last.0
          (λ d. ap (λ w. row_name_cmp c.args.name.now w.name) (sym (last.1 d)) ∙ e),
      λ k d low high. absurd (omega arith),
    )

pub returns-clause-place : goal.returns-clause-place
returns-clause-place c =
    searched (HoldsAt (λ w. row_name_cmp w.name c.args.name.now ≡ Equal) c.args.writes.now)
    (IsPartitionPoint (λ w. row_name_cmp w.name c.args.name.now ≡ Less)
    (λ w. row_name_cmp w.name c.args.name.now ≡ Greater) c.args.writes.now)
    (IsNonDecreasingBy
    (λ w. ordering_index (row_name_cmp w.name c.args.name.now)) c.args.writes.now)
    c.binary_search_by_key.result
    (c.binary_search_by_key.ensures.position (λ w. w.name)
    (answers_always _ _ _ (λ f a r g h. search rules)))
    (searchable c.args.name.now c.args.writes.now c.requires)
