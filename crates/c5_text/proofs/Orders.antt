-- Reading one number after the other.
use Rattle.std.proofs.Common.{◌≡◌, ◌∙◌, ℕ, ◌^◌, ◌<◌, ◌≤◌, List, [], ◌∷◌, ◌++◌, length, refl, sym}
use Rattle.std.proofs.Common.{ap, append_assoc, arith, length-append}
use Rattle.std.specs.Prelude.{IsTrue}
use Rattle.std.specs.Fmt.{decimal}
use Rattle.std.proofs.lemmas.List.{append-nil}
use Rattle.c5_definitions.specs.Lines.{is_word_end}
use Rattle.c5_definitions.specs.Outputs.{AreU32, number_text, numbers_text}
use Rattle.c5_text.specs.Readers.{IsAfter}
use Rattle.c5_definitions.proofs.NumberTexts.{EndsDigits, number-cut, word_end-ends}

-- whatever numbers the bytes spell, they begin with these, and the rest spells the others
abbrev pub Leads : List ℕ → List ℕ → List ℕ → Type 0
Leads bytes numbers rest = (all : List ℕ) → AreU32 all → bytes ≡ numbers_text all → (more : List ℕ)
    × AreU32 more × (all ≡ numbers ++ more) × (rest ≡ numbers_text more)

-- these numbers are read, and the rest is to come
pub record HasRead (bytes numbers rest : List ℕ) : Type 0 where
  pub small : AreU32 numbers
  pub spelled : bytes ≡ numbers_text numbers ++ rest
  pub leads : Leads bytes numbers rest

pub read-nothing : (bytes : List ℕ) → HasRead bytes [] bytes
read-nothing bytes =
    record { small = tt; spelled = refl; leads = λ all small e. (all, small, refl, e) }

small-more : (numbers : List ℕ) (n : ℕ) → AreU32 numbers → n < 2 ^ 32 → AreU32 (numbers ++ n ∷ [])
small-more [] n small lt = (lt, tt)
small-more (x ∷ numbers) n small lt = (small.0, small-more numbers n small.1 lt)

text-more : (numbers : List ℕ) (n : ℕ) (rest : List ℕ)
    → numbers_text (numbers ++ n ∷ []) ++ rest ≡ numbers_text numbers ++ (number_text n ++ rest)
text-more [] n rest = ap (λ (t : List ℕ). t ++ rest) (append-nil (number_text n))
text-more (x ∷ numbers) n rest =
    append_assoc (number_text x) (numbers_text (numbers ++ n ∷ [])) rest
    ∙ ap (λ (t : List ℕ). number_text x ++ t) (text-more numbers n rest)
    ∙ sym (append_assoc (number_text x) (numbers_text numbers) (number_text n ++ rest))

numbers-end : (numbers : List ℕ) → EndsDigits (numbers_text numbers)
numbers-end [] = tt
numbers-end (n ∷ numbers) = omega arith

next : (bytes numbers rest after : List ℕ) (n : ℕ) (all more : List ℕ) → n < 2 ^ 32
    → IsTrue (is_word_end after) → rest ≡ number_text n ++ after
    → AreU32 more → all ≡ numbers ++ more → rest ≡ numbers_text more → (others : List ℕ)
    × AreU32 others × (all ≡ (numbers ++ n ∷ []) ++ others) × (after ≡ numbers_text others)
next bytes numbers rest after n all [] lt ends here small same left = absurd cc
next bytes numbers rest after n all (m ∷ more) lt ends here small same left =
    let cut = number-cut n m after (numbers_text more) (omega (arith, lt)) (omega (arith, small.0))
    (word_end-ends after ends) (numbers-end more) (sym here ∙ left) in
    let joined : (numbers ++ n ∷ []) ++ more ≡ numbers ++ n ∷ more =
    append_assoc numbers (n ∷ []) more in
    (more, small.1, same ∙ ap (λ (k : ℕ). numbers ++ k ∷ more) (sym cut.0) ∙ sym joined, cut.1)

pub read-more : (bytes numbers rest after : List ℕ) (n : ℕ) → HasRead bytes numbers rest
    → n < 2 ^ 32 → IsTrue (is_word_end after) → rest ≡ number_text n ++ after
    → HasRead bytes (numbers ++ n ∷ []) after
read-more bytes numbers rest after n read lt ends here = record {
  small = small-more numbers n read.small lt;
  spelled = read.spelled ∙ ap (λ (t : List ℕ). numbers_text numbers ++ t) here ∙ sym
      (text-more numbers n after);
  leads = λ all small e. let l = read.leads all small e in
      next bytes numbers rest after n all l.0 lt ends here l.1 l.2 l.3;
}

-- the bytes after a number are fewer
pub read-shorter : (rest after : List ℕ) (n : ℕ) → rest ≡ number_text n ++ after
    → length after < length rest
read-shorter rest after n here =
    let count = ap (λ (t : List ℕ). length t) here in
    omega (arith, length-append (decimal n) after, count)

whole-at : (all numbers more : List ℕ) → all ≡ numbers ++ more → [] ≡ numbers_text more
    → numbers ≡ all
whole-at all numbers [] same left = sym (append-nil numbers) ∙ sym same
whole-at all numbers (m ∷ more) same left = absurd cc

pub read-all : (bytes numbers rest all : List ℕ) → HasRead bytes numbers rest → length rest ≡ 0
    → AreU32 all → bytes ≡ numbers_text all → numbers ≡ all
read-all bytes numbers [] all read none small e = let l = read.leads all small e in
    whole-at all numbers l.0 l.2 l.3
read-all bytes numbers (x ∷ rest) all read none small e = absurd (omega arith)

pub spelled-all : (bytes numbers rest : List ℕ) → HasRead bytes numbers rest → length rest ≡ 0
    → bytes ≡ numbers_text numbers
spelled-all bytes numbers [] read none = read.spelled ∙ append-nil (numbers_text numbers)
spelled-all bytes numbers (x ∷ rest) read none = absurd (omega arith)

no-next : (rest more : List ℕ) → 1 ≤ length rest
    → ((n : ℕ) (after : List ℕ) → IsAfter [] rest n after → ⊥) → AreU32 more
    → rest ≡ numbers_text more → ⊥
no-next rest [] some never small left = let none = ap (λ (t : List ℕ). length t) left in
    absurd (omega (arith, none))
no-next rest (m ∷ more) some never small left =
    never m (numbers_text more) (record { small = small.0; ends = ends more; spelled = left })
  where
    ends : (numbers : List ℕ) → IsTrue (is_word_end (numbers_text numbers))
    ends [] = refl
    ends (k ∷ numbers) = refl

-- if no number comes, the bytes spell no numbers
pub read-none : (bytes numbers rest all : List ℕ) → HasRead bytes numbers rest → 1 ≤ length rest
    → ((n : ℕ) (after : List ℕ) → IsAfter [] rest n after → ⊥) → AreU32 all
    → bytes ≡ numbers_text all → ⊥
read-none bytes numbers rest all read some never small e = let l = read.leads all small e in
    no-next rest l.0 some never l.1 l.3
