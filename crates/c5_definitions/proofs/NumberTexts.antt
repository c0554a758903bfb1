-- Numbers that are printed one after the other are told apart.
use Rattle.std.proofs.Common.{◌≡◌, ℕ, ◌^◌, ◌<◌, List, [], ◌∷◌, ◌++◌, refl, arith}
use Rattle.std.specs.Prelude.{IsTrue}
use Rattle.std.specs.Fmt.{decimal}
use Rattle.std.specs.Str.Parse.{AllDigits}
use Rattle.std.proofs.lemmas.Bool.{eqb-true}
use Rattle.std.proofs.lemmas.Fmt.{decimal_is_IsNumeral, decimal_injective}
use Rattle.std.proofs.lemmas.Str.Parse.{digit_from_value}
use Rattle.c5_definitions.specs.Lines.{is_word_end}
use Rattle.c5_definitions.specs.Outputs.{number_text}

-- no digit comes first
abbrev pub EndsDigits : List ℕ → Type 0
EndsDigits [] = Unit {0}
EndsDigits (byte ∷ bytes) = byte < 48

-- the same digits, and the same bytes after them
pub digits-cut : (a b s t : List ℕ) → AllDigits 10 a → AllDigits 10 b → EndsDigits s → EndsDigits t
    → a ++ s ≡ b ++ t → (a ≡ b) × (s ≡ t)
digits-cut [] [] s t da db es et e = (refl, e)
digits-cut [] (y ∷ b) [] t da db es et e = absurd cc
digits-cut [] (y ∷ b) (x ∷ s) t da db es et e =
    let same : x ≡ y = cc in
    let digit = digit_from_value y db.0 in
    absurd (omega (arith, es, digit.0, same))
digits-cut (x ∷ a) [] s [] da db es et e = absurd cc
digits-cut (x ∷ a) [] s (y ∷ t) da db es et e =
    let same : x ≡ y = cc in
    let digit = digit_from_value x da.0 in
    absurd (omega (arith, et, digit.0, same))
digits-cut (x ∷ a) (y ∷ b) s t da db es et e =
    let first : x ≡ y = cc in
    let rest : a ++ s ≡ b ++ t = cc in
    let more = digits-cut a b s t da.1 db.1 es et rest in
    let whole = more.0 in (
      (cc),
      more.1,
    )

-- the same number, and the same bytes after it
pub number-cut : (m n : ℕ) (s t : List ℕ) → m < 2 ^ 64 → n < 2 ^ 64 → EndsDigits s → EndsDigits t
    → number_text m ++ s ≡ number_text n ++ t → (m ≡ n) × (s ≡ t)
number-cut m n s t small_m small_n es et e =
    let rest : decimal m ++ s ≡ decimal n ++ t = cc in
    let same = digits-cut (decimal m) (decimal n) s t (decimal_is_IsNumeral m small_m).0.1
    (decimal_is_IsNumeral n small_n).0.1 es et rest in
    (decimal_injective m n small_m small_n same.0, same.1)

pub word_end-ends : (bytes : List ℕ) → IsTrue (is_word_end bytes) → EndsDigits bytes
word_end-ends [] is = tt
word_end-ends (byte ∷ bytes) is = let space = eqb-true byte 32 is in omega (arith, space)
