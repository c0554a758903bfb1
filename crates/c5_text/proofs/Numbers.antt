-- A number is read from the text that writes it, and from no other.
use lib.Signed.{mag}
use Rattle.std.proofs.Common.{◌≡◌, ◌∙◌, ℕ, ℤ, pos, negsuc, suc, ◌^◌, ◌<◌, true, false, ◌&&◌, eqb}
use Rattle.std.proofs.Common.{ltb, List, get_or, Option, Some, None, Result, Ok, Err, refl, sym, ap}
use Rattle.std.proofs.Common.{subst, arith, w64}
use Rattle.std.specs.Prelude.{FitsSigned}
use Rattle.std.specs.Fmt.{decimal, signed_decimal}
use Rattle.std.specs.Str.{bytes_eq}
use Rattle.std.specs.Str.Parse.{signed_digits_value, digits_value, without_leading_plus, AllDigits}
use Rattle.std.proofs.lemmas.Bool.{ltb-true, lt-ltb}
use Rattle.std.proofs.lemmas.Slice.Eq.{bytes_eq-Decides}
use Rattle.std.proofs.lemmas.Fmt.{decimal_is_IsNumeral}
use Rattle.std.proofs.lemmas.Str.Parse.{numerals_by_value, tells_digits, not_in_digits}
use Rattle.std.proofs.lemmas.Str.Parse.{without_leading_plus_none}
use Rattle.c5_text.specs.Reading.{printed_int_of}
use Rattle.c5_text.proofs.Steps.{kept, both, some_is, ne-eqb}

pub err_is_not_ok : {A E : Type 0} (error : E) (x : A) → Err error ≡ Ok x → ⊥
err_is_not_ok error x e = absurd cc

pub ok_is : {A E : Type 0} (x y : A) → ◌≡◌ {A = Result A E} (Ok x) (Ok y) → x ≡ y
ok_is x y e = cc

pub int_of-sound : (bytes : List ℕ) (n : ℤ) → printed_int_of bytes ≡ Some n
    → (bytes ≡ signed_decimal n) × FitsSigned w64 n
unfolding printed_int_of
int_of-sound bytes n e =
    let z = signed_digits_value 10 bytes in
    let a = kept (ltb (mag z) (2 ^ 63) && bytes_eq (signed_decimal z) bytes) (Some z) n e in
    let b = both (ltb (mag z) (2 ^ 63)) (bytes_eq (signed_decimal z) bytes) a.0 in
    let same : signed_decimal z ≡ bytes = (bytes_eq-Decides (signed_decimal z) bytes).0 b.1 in
    subst (λ (m : ℤ). (bytes ≡ signed_decimal m) × FitsSigned w64 m) (some_is z n a.1)
    (sym same, record { sfits = ltb-true _ _ b.0 })

none_is : (r : Option ℤ) → ((n : ℤ) → r ≡ Some n → ⊥) → None ≡ r
none_is (Some n) never = absurd (never n refl)
none_is None never = refl

pub int_of-none : (bytes : List ℕ) → ((n : ℤ) → FitsSigned w64 n → bytes ≡ signed_decimal n → ⊥)
    → None ≡ printed_int_of bytes
int_of-none bytes never = none_is (printed_int_of bytes)
    (λ n e. let s = int_of-sound bytes n e in never n s.1 s.0)

value-plain : (n : ℕ) → n < 2 ^ 63 → signed_digits_value 10 (decimal n) ≡ pos n
value-plain n small =
    let k = decimal_is_IsNumeral n (omega arith) in
    let own = numerals_by_value (AllDigits 10) tells_digits in
    let minus : eqb (get_or (decimal n) 0 0) 45 ≡ false =
    ne-eqb (get_or (decimal n) 0 0) 45
    (not_in_digits own (decimal n) 45 k.0.1 (λ r. omega (arith, r.0, r.1)) 0 k.0.0) in
    let plus : without_leading_plus (decimal n) ≡ decimal n =
    without_leading_plus_none (decimal n)
    (not_in_digits own (decimal n) 43 k.0.1 (λ r. omega (arith, r.0, r.1)) 0 k.0.0) in
    let value : digits_value 10 (without_leading_plus (decimal n)) ≡ n =
    ap (digits_value 10) plus ∙ k.1 in
    rw (minus, value) refl

value-signed : (n : ℤ) → FitsSigned w64 n → signed_digits_value 10 (signed_decimal n) ≡ n
value-signed (pos n) fits = value-plain n fits.sfits
value-signed (negsuc n) fits =
    let k = decimal_is_IsNumeral (suc n) (omega (arith, fits.sfits)) in
    rw (k.1) refl

pub int_of-again : (n : ℤ) → FitsSigned w64 n → printed_int_of (signed_decimal n) ≡ Some n
unfolding printed_int_of
int_of-again n fits =
    let value = value-signed n fits in
    let small : ltb (mag n) (2 ^ 63) ≡ true = lt-ltb (mag n) (2 ^ 63) fits.sfits in
    let same : bytes_eq (signed_decimal n) (signed_decimal n) ≡ true =
    (bytes_eq-Decides (signed_decimal n) (signed_decimal n)).1 refl in
    rw (value, small, same) refl
