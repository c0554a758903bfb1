use Rattle.std.proofs.Common.{◌<◌, ◌+◌, arith}
use Rattle.std.proofs.lemmas.List.Elements.{All-weaker}
use Rattle.c5_versions.proofs.VersionLaws.{All-put}
use Rattle.bench_versions.proofs.ascending.Goals as goal

pub loop-stamp-preserved : goal.loop-stamp-preserved
loop-stamp-preserved c =
    let next = c.loop-stamp.stamp + 1 in
    rw (c.insert.ensures.versions, c.in_ok-reserve.ensures.versions)
    (All-put (λ v. v.wrote < next) _ _ (omega arith)
    (All-weaker (λ v. v.wrote < c.loop-stamp.stamp) (λ v. v.wrote < next)
    (λ v h. omega arith) _ c.loop-stamp.invariant))
