-- The first line of bytes.
use Rattle.std.proofs.Common.{◌≡◌, ◌+◌, ◌<◌, ◌≤◌, ℕ, Bool, true, false, eqb, List, [], ◌∷◌, length}
use Rattle.std.proofs.Common.{get_or, take, drop, Option, Some, None, refl, arith}
use Rattle.std.specs.List.{position, position_or_len}
use Rattle.std.proofs.lemmas.Grind.{common_steps}
use Rattle.std.proofs.lemmas.List.Sums.{position_or_len_is}
use Rattle.memchr.specs.Find.{IsFirstByte, is_byte}
use Rattle.c5_definitions.specs.Lines.{lines_of, after_lines}

abbrev pub is_end : ℕ → Bool
is_end byte = eqb byte 10

-- if there is a line end, the first line goes up to it
lines-before_end : (bytes : List ℕ) → position_or_len is_end bytes < length bytes
    → lines_of bytes ≡ take (position_or_len is_end bytes) bytes
    ∷ lines_of (drop (position_or_len is_end bytes + 1) bytes)
unfolding lines_of
lines-before_end [] h = absurd (omega arith)
lines-before_end (byte ∷ bytes) h = grind (arith, common_steps, lines-before_end bytes)

behind-end : (bytes : List ℕ) → position_or_len is_end bytes < length bytes
    → after_lines 1 bytes ≡ drop (position_or_len is_end bytes + 1) bytes
unfolding after_lines
behind-end [] h = absurd (omega arith)
behind-end (byte ∷ bytes) h = grind (arith, common_steps, behind-end bytes)

-- if there is none, all is the first line
lines-without_end : (byte : ℕ) (bytes : List ℕ)
    → length (byte ∷ bytes) ≤ position_or_len is_end (byte ∷ bytes)
    → lines_of (byte ∷ bytes) ≡ (byte ∷ bytes) ∷ []
unfolding lines_of
lines-without_end byte [] h = grind (arith, common_steps)
lines-without_end byte (next ∷ bytes) h = grind (arith, common_steps, lines-without_end next bytes)

behind-no_end : (bytes : List ℕ) → length bytes ≤ position_or_len is_end bytes
    → after_lines 1 bytes ≡ []
unfolding after_lines
behind-no_end [] h = refl
behind-no_end (byte ∷ bytes) h = grind (arith, common_steps, behind-no_end bytes)

-- ---- the first place of a line end is the one that a search for it gives

not_true : (b : Bool) → ¬ (b ≡ true) → b ≡ false
not_true true never = absurd (never refl)
not_true false never = refl

pub first-is_position : (bytes : List ℕ) (found : Option ℕ) → IsFirstByte (is_byte 10) bytes found
    → found ≡ position is_end bytes
first-is_position bytes None nowhere =
    let none = position_or_len_is is_end bytes (length bytes) 0 (omega arith)
    (λ k lt. not_true (is_end (get_or bytes k 0)) (nowhere k (omega arith) lt))
    (λ lt. absurd (omega arith)) in
    grind (arith, common_steps)
first-is_position bytes (Some end) first =
    let at = position_or_len_is is_end bytes end 0 (omega (arith, first.0.high))
    (λ k lt. not_true (is_end (get_or bytes k 0)) (first.0.before k (omega arith) lt))
    (λ lt. first.1) in
    let lt = first.0.high in
    grind (arith, common_steps)

-- ---- by the place that a search for a line end gives

pub lines-Some : (bytes : List ℕ) (end : ℕ) → Some end ≡ position is_end bytes
    → lines_of bytes ≡ take end bytes ∷ lines_of (drop (end + 1) bytes)
lines-Some bytes end found = grind (arith, common_steps, lines-before_end bytes)

pub behind-Some : (bytes : List ℕ) (end : ℕ) → Some end ≡ position is_end bytes
    → after_lines 1 bytes ≡ drop (end + 1) bytes
behind-Some bytes end found = grind (arith, common_steps, behind-end bytes)

pub lines-None : (bytes : List ℕ) → 1 ≤ length bytes → None ≡ position is_end bytes
    → lines_of bytes ≡ bytes ∷ lines_of []
unfolding lines_of
lines-None [] some found = absurd (omega arith)
lines-None (byte ∷ bytes) some found = grind (arith, common_steps, lines-without_end byte bytes)

pub behind-None : (bytes : List ℕ) → None ≡ position is_end bytes → after_lines 1 bytes ≡ []
behind-None bytes found = grind (arith, common_steps, behind-no_end bytes)
