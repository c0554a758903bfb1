use Rattle.std.proofs.Common.{◌-◌, length, ltb, ltb-true, ltb-false, ap, arith, rules}
use Rattle.std.proofs.lemmas.List.Sorted.{IsPartitionPoint-from_clause, IsPartitionedBy-ltb}
use Rattle.c5_versions.proofs.VersionLemmas.{not_above}
use Rattle.c5_versions.proofs.versions.count_below.Goals as goal

pub returns-in-Some-clause-place : goal.returns-in-Some-clause-place
returns-in-Some-clause-place c =
    let stamp = c.args.stamp in
    let parted = IsPartitionedBy-ltb (λ v. v.wrote) _ stamp
    (λ i j d le within. not_above _ i j d d c.requires le within) in
    let point = IsPartitionPoint-from_clause
    (λ v. ltb v.wrote stamp) _ _ c.partition_point.ensures.partitioned parted
    (λ a r q k. search rules) in (
      λ k d low high. ltb-true _ _ (point.0 k d low high),
      λ k d low high. ltb-false _ _ (point.1 k d low high),
    )

pub returns-in_default-clause-place : goal.returns-in_default-clause-place
returns-in_default-clause-place c =
    let last = c.in-Some.ensures.item.3 in
    let end = length c.args.versions.now - 1 in (
      λ k d low high. omega (
        arith,
        not_above c.args.versions.now k end d d c.requires (omega arith) (omega arith),
        ap (λ v. v.wrote) (last.1 d),
        c.if-stamp-last.false,
      ),
      λ k d low high. absurd (omega arith),
    )
