-- The least power of two that is enough is the number of buckets.
use Rattle.std.proofs.Common.{◌≡◌, ℕ, zero, suc, ◌+◌, ◌*◌, ◌^◌, ◌<◌, ◌≤◌, arith, ap, ◌∙◌, lit≤}
use Rattle.std.proofs.Common.{lt_of_not-le}
use Rattle.std.specs.Prelude.{nat_le}
use Rattle.std.proofs.lemmas.Bool.{leb-true, le-leb}
use Rattle.std.proofs.Math.Nat.{pow-succ'}
use native.Mathlib.Decide.{dec_le}
use Rattle.c5_definitions.specs.Searches.{least_up_to}
use Rattle.c5_definitions.specs.RowIndex.{bucket_count}
use Rattle.c5_definitions.proofs.SearchLemmas.{least-found, least-passes}

doubles : (n : ℕ) → n + 1 ≤ 2 ^ n
doubles zero = lit≤ tt
doubles (suc n) = let h = doubles n in let e : 2 ^ suc n ≡ 2 * 2 ^ n = pow-succ' 2 n in omega arith

enough : (n : ℕ) → 2 * n ≤ 2 ^ (n + 1)
enough n = let h = doubles n in let e : 2 ^ (n + 1) ≡ 2 * 2 ^ n =
    ap (λ (k : ℕ). 2 ^ k) (omega arith) ∙ pow-succ' 2 n in omega arith

pub count-found : (writes k : ℕ) → 1 ≤ k → 2 * writes ≤ 2 ^ k
    → ((j : ℕ) → 1 ≤ j → j < k → 2 ^ j < 2 * writes) → 2 ^ k ≡ bucket_count writes
unfolding bucket_count
count-found writes k positive is_enough least =
    let within : k ≤ writes + 1 = elim (dec_le k (writes + 1)) [
      | yes le ↦ le
      | no gt ↦ (let a = least (writes + 1) (omega arith) (lt_of_not-le gt) in
          let b = enough writes in absurd (omega arith))
    ] in
    let found = least-found (λ j. nat_le (2 * writes) (2 ^ j)) (writes + 1) k positive within
    (le-leb (2 * writes) (2 ^ k) is_enough) in
    let e : ℕ = least_up_to (λ j. nat_le (2 * writes) (2 ^ j)) (writes + 1) in
    let some_e = found.0 in
    let passes = leb-true (2 * writes)
    (2 ^ least_up_to (λ j. nat_le (2 * writes) (2 ^ j)) (writes + 1))
    (least-passes (λ j. nat_le (2 * writes) (2 ^ j)) (writes + 1) (λ z. omega (arith, found.0)))
    in
    let same : k ≡ least_up_to (λ j. nat_le (2 * writes) (2 ^ j)) (writes + 1) =
    elim (dec_le k (least_up_to (λ j. nat_le (2 * writes) (2 ^ j)) (writes + 1))) [
      | yes le ↦ omega (arith, found.1)
      | no gt ↦
          (let a = least (least_up_to (λ j. nat_le (2 * writes) (2 ^ j)) (writes + 1)) found.0
          (lt_of_not-le gt) in absurd (omega arith))
    ] in
    ap (λ (n : ℕ). 2 ^ n) same

-- a power is doubled
pub power-more : (n k : ℕ) → n ≡ 2 ^ k → n * 2 ≡ 2 ^ suc k
power-more n k is = let e : 2 ^ suc k ≡ 2 * 2 ^ k = pow-succ' 2 k in omega arith
