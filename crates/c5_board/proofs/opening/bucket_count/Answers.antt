use Rattle.std.proofs.Common.{◌≡◌, ℕ, suc, ◌^◌, arith, refl, ap, ◌∙◌}
use mathlib.Core.Logic.{dite}
use native.Mathlib.Decide.{ℕ_discrete}
use Rattle.c5_board.proofs.BucketLemmas.{count-found, power-more}
use Rattle.c5_board.proofs.opening.bucket_count.Goals as goal

pub loop-buckets-init : goal.loop-buckets-init
loop-buckets-init c =
    record {
      power = (1, refl, omega arith, (λ j some below. absurd (omega arith)));
      two = omega arith;
      few = omega arith;
    }

pub loop-buckets-preserved : goal.loop-buckets-preserved
loop-buckets-preserved c =
    let p = c.loop-buckets.invariant.power in
    let two = c.loop-buckets.invariant.two in
    record {
      power = (
        suc p.0,
        power-more c.loop-buckets.buckets p.0 p.1,
        omega arith,
        (λ j positive below. dite (ℕ_discrete j p.0)
            (λ same. let e : 2 ^ j ≡ 2 ^ p.0 = ap (λ (n : ℕ). 2 ^ n) same in omega (arith, p.1))
            (λ ne. p.3 j positive (omega arith))),
      );
      two = omega arith;
      few = omega arith;
    }

pub returns : goal.returns
returns c = let p = c.loop-buckets.invariant.power in
    p.1 ∙ count-found c.args.writes p.0 p.2 (omega (arith, p.1)) p.3
