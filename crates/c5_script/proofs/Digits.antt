-- Values of digits.
use Rattle.std.proofs.Common.{◌≡◌, ◌<◌, ◌≤◌, ℕ, zero, suc, ◌+◌, ◌-◌, ◌*◌, ◌^◌, List, [], ◌∷◌}
use Rattle.std.proofs.Common.{length, drop, get_or, true, ap, add-one, arith}
use Rattle.std.proofs.Math.Nat.{pow-le-pow_right}
use Rattle.std.proofs.Math.Seq.{drop-cons}
use Rattle.std.proofs.lemmas.Grind.{pow_more}
use Rattle.std.proofs.lemmas.Bool.Decides.{nat_tests}
use Rattle.std.proofs.lemmas.List.{drop_all}
use Rattle.std.specs.List.{list_all}
use Rattle.c5_definitions.specs.Numerals.{digits_after, is_digit}

-- a digit among digits
pub digit_at : (digits : List ℕ) (i : ℕ) → list_all is_digit digits ≡ true → i < length digits
    → get_or digits i 0 ≤ 57
digit_at [] i all h = omega arith
digit_at (digit ∷ digits) zero all h = grind (arith, nat_tests)
digit_at (digit ∷ digits) (suc i) all h = digit_at digits i (grind (arith, nat_tests)) (omega arith)

-- one digit more
pub digits-more : (n i : ℕ) (digits : List ℕ) → i < length digits
    → digits_after n (drop i digits)
    ≡ digits_after (n * 10 + (get_or digits i 0 - 48)) (drop (i + 1) digits)
unfolding digits_after
digits-more n i digits h = rw (add-one, drop-cons digits i 0)

-- below the power of ten of so many digits
pub below-more : (n i d : ℕ) → n < 10 ^ i → d ≤ 9 → n * 10 + d < 10 ^ (i + 1)
below-more n i d small le = omega (arith, pow_more 10 i)

-- 19 digits fit into 64 bits
pub below_19 : (n i : ℕ) → n < 10 ^ i → i < 19 → n * 10 + 9 < 2 ^ 64
below_19 n i small le = let p : 10 ^ i ≤ 10 ^ 18 =
    pow-le-pow_right {n = 10} (omega arith) {i = i} {j = 18} (omega arith) in omega arith

-- no digit is left
pub digits-all : (n i : ℕ) (digits : List ℕ) → length digits ≤ i
    → digits_after n (drop i digits) ≡ n
unfolding digits_after
digits-all n i digits h = ap (digits_after n) (drop_all i digits h)
