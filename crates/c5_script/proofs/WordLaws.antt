-- The first word of bytes.
use Rattle.std.proofs.Common.{◌≡◌, ◌≢◌, ◌+◌, ◌-◌, ◌<◌, ◌≤◌, ◌||◌, ◌∙◌, ℕ, zero, suc, cond, not}
use Rattle.std.proofs.Common.{Bool, true, false, eqb, List, [], ◌∷◌, ◌++◌, length, take, drop}
use Rattle.std.proofs.Common.{get_or, Some, None, Result, Ok, Err, refl, ap, sym, append_assoc}
use Rattle.std.proofs.Common.{add-one, add-zero, length-drop, arith}
use Rattle.std.specs.List.{position, position_or_len, list_all}
use Rattle.std.proofs.Math.Seq.{drop-length, take-length}
use Rattle.std.proofs.lemmas.Grind.{common_steps}
use Rattle.std.proofs.lemmas.List.{append-nil, take_rest, get_or-drop, drop_more}
use Rattle.std.proofs.lemmas.List.Quantifiers.{position-Some}
use Rattle.c5_definitions.specs.declared.script.ScriptKind.{ScriptKind}
use Rattle.c5_definitions.specs.declared.script.ScriptKind.TheVariants as kinds
use Rattle.c5_definitions.specs.Words.{Word, bare, quoted}
use Rattle.c5_definitions.specs.Lines.{is_word_end, between, in_bare, in_quoted, after_quoted}
use Rattle.c5_definitions.specs.Lines.{with_word, words_at, words_of, is_line_byte}
use Rattle.c5_script.specs.Reading.{with_words}

-- ---- up to the first byte that passes a test

pos-suc : (p : ℕ → Bool) (x : ℕ) (xs : List ℕ) (n : ℕ) → suc n ≤ position_or_len p (x ∷ xs)
    → (p x ≡ false) × (n ≤ position_or_len p xs)
pos-suc p x xs n h =
    elim (p x) as (λ v. suc n ≤ cond (not v) (1 + position_or_len p xs) 0 → (v ≡ false)
    × (n ≤ position_or_len p xs)) [
      | true ↦ λ k. absurd (omega arith)
      | false ↦ λ k. (refl, omega arith)
    ] h

pos-Some : (p : ℕ → Bool) (xs : List ℕ) (end : ℕ) → Some end ≡ position p xs
    → (end ≡ position_or_len p xs) × (end < length xs)
pos-Some p xs end found =
    let at = position-Some p xs end 0 (sym found) in
    (grind (arith, common_steps, found), at.0)

pos-None : (p : ℕ → Bool) (xs : List ℕ) → None ≡ position p xs → length xs ≤ position_or_len p xs
pos-None p xs found = grind (arith, common_steps, found)

-- ---- bare words

abbrev pub ends_bare : ℕ → Bool
ends_bare byte = eqb byte 32 || eqb byte 34

bare-goes : (come : List ℕ) (byte : ℕ) (bytes : List ℕ) → ends_bare byte ≡ false
    → words_at (in_bare come) (byte ∷ bytes) ≡ words_at (in_bare (come ++ byte ∷ [])) bytes
unfolding words_at
bare-goes come byte bytes h = grind (arith, common_steps)

-- a bare word goes on up to the first blank or quote
bare-run : (n : ℕ) (come bytes : List ℕ) → n ≤ position_or_len ends_bare bytes
    → words_at (in_bare come) bytes ≡ words_at (in_bare (come ++ take n bytes)) (drop n bytes)
bare-run zero come bytes h = rw append-nil refl
bare-run (suc n) come [] h = absurd (omega arith)
bare-run (suc n) come (byte ∷ bytes) h =
    let at = pos-suc ends_bare byte bytes n h in
    bare-goes come byte bytes at.0 ∙ bare-run n (come ++ byte ∷ []) bytes at.1 ∙ ap
    (λ (w : List ℕ). words_at (in_bare w) (drop n bytes))
    (append_assoc come (byte ∷ []) (take n bytes))

bare-quote : (word bytes : List ℕ) → 1 ≤ length bytes → get_or bytes 0 0 ≡ 34
    → words_at (in_bare word) bytes ≡ Err kinds.Quote
unfolding words_at
bare-quote word [] some at = absurd (omega arith)
bare-quote word (byte ∷ bytes) some at = grind (arith, common_steps)

bare-blank : (word bytes : List ℕ) → 1 ≤ length bytes → ends_bare (get_or bytes 0 0) ≡ true
    → get_or bytes 0 0 ≢ 34 → words_at (in_bare word) bytes
    ≡ with_word (bare word) (words_at between bytes)
unfolding words_at
bare-blank word [] some at other = absurd (omega arith)
bare-blank word (byte ∷ bytes) some at other = grind (arith, common_steps)

bare-end : (word : List ℕ) → words_at (in_bare word) []
    ≡ with_word (bare word) (words_at between [])
unfolding words_at
bare-end word = refl

-- if none of them occurs, all is the word
pub bare-None : (bytes : List ℕ) → 1 ≤ length bytes
    → None ≡ position ends_bare (take (length bytes - 1) (drop 1 bytes))
    → words_at (in_bare (take 1 bytes)) (drop 1 bytes)
    ≡ with_word (bare bytes) (words_at between [])
bare-None [] some found = absurd (omega arith)
bare-None (byte ∷ bytes) some found =
    let none : None ≡ position ends_bare bytes = rw (take_rest (byte ∷ bytes) 1) at found in
    bare-run (length bytes) (byte ∷ []) bytes (pos-None ends_bare bytes none) ∙ rw
    (take-length bytes, drop-length bytes) (bare-end (byte ∷ bytes))

record BareEnds (bytes : List ℕ) (end : ℕ) : Type 0 where
  run : words_at (in_bare (take 1 bytes)) (drop 1 bytes)
      ≡ words_at (in_bare (take (end + 1) bytes)) (drop (end + 1) bytes)
  some : 1 ≤ length (drop (end + 1) bytes)
  stops : ends_bare (get_or (drop (end + 1) bytes) 0 0) ≡ true

bare-ends : (bytes : List ℕ) (end : ℕ) → 1 ≤ length bytes
    → Some end ≡ position ends_bare (take (length bytes - 1) (drop 1 bytes)) → BareEnds bytes end
bare-ends [] end some found = absurd (omega arith)
bare-ends (byte ∷ bytes) end some found =
    let here : Some end ≡ position ends_bare bytes = rw (take_rest (byte ∷ bytes) 1) at found in
    let up_to = pos-Some ends_bare bytes end here in
    let at = position-Some ends_bare bytes end 0 (sym here) in
    record {
      run = rw (add-one end) (bare-run end (byte ∷ []) bytes (omega arith));
      some = rw (add-one end, length-drop end bytes) (omega arith);
      stops = rw (add-one end, get_or-drop end bytes 0 0, add-zero end) at.1;
    }

pub bare-Some_quote : (bytes : List ℕ) (end : ℕ) → 1 ≤ length bytes
    → Some end ≡ position ends_bare (take (length bytes - 1) (drop 1 bytes))
    → get_or (drop (end + 1) bytes) 0 0 ≡ 34
    → words_at (in_bare (take 1 bytes)) (drop 1 bytes) ≡ Err kinds.Quote
bare-Some_quote bytes end some found at =
    let e = bare-ends bytes end some found in
    e.run ∙ bare-quote (take (end + 1) bytes) (drop (end + 1) bytes) e.some at

pub bare-Some_blank : (bytes : List ℕ) (end : ℕ) → 1 ≤ length bytes
    → Some end ≡ position ends_bare (take (length bytes - 1) (drop 1 bytes))
    → get_or (drop (end + 1) bytes) 0 0 ≢ 34
    → words_at (in_bare (take 1 bytes)) (drop 1 bytes)
    ≡ with_word (bare (take (end + 1) bytes)) (words_at between (drop (end + 1) bytes))
bare-Some_blank bytes end some found at =
    let e = bare-ends bytes end some found in
    e.run ∙ bare-blank (take (end + 1) bytes) (drop (end + 1) bytes) e.some e.stops at

-- ---- texts

abbrev pub is_quote : ℕ → Bool
is_quote byte = eqb byte 34

text-goes : (come : List ℕ) (byte : ℕ) (bytes : List ℕ) → is_quote byte ≡ false
    → words_at (in_quoted come) (byte ∷ bytes) ≡ words_at (in_quoted (come ++ byte ∷ [])) bytes
unfolding words_at
text-goes come byte bytes h = grind (arith, common_steps)

-- a text goes on up to the first quote
text-run : (n : ℕ) (come bytes : List ℕ) → n ≤ position_or_len is_quote bytes
    → words_at (in_quoted come) bytes ≡ words_at (in_quoted (come ++ take n bytes)) (drop n bytes)
text-run zero come bytes h = rw append-nil refl
text-run (suc n) come [] h = absurd (omega arith)
text-run (suc n) come (byte ∷ bytes) h =
    let at = pos-suc is_quote byte bytes n h in
    text-goes come byte bytes at.0 ∙ text-run n (come ++ byte ∷ []) bytes at.1 ∙ ap
    (λ (w : List ℕ). words_at (in_quoted w) (drop n bytes))
    (append_assoc come (byte ∷ []) (take n bytes))

text-closes : (come : List ℕ) (byte : ℕ) (bytes : List ℕ) → is_quote byte ≡ true
    → words_at (in_quoted come) (byte ∷ bytes)
    ≡ with_word (quoted come) (words_at after_quoted bytes)
unfolding words_at
text-closes come byte bytes h = grind (arith, common_steps)

text-open : (come : List ℕ) → words_at (in_quoted come) [] ≡ Err kinds.Quote
unfolding words_at
text-open come = refl

pub text-Some : (bytes : List ℕ) (end : ℕ) → Some end ≡ position is_quote bytes
    → words_at (in_quoted []) bytes
    ≡ with_word (quoted (take end bytes)) (words_at after_quoted (drop (end + 1) bytes))
text-Some bytes end found =
    let at = position-Some is_quote bytes end 0 (sym found) in
    let up_to = pos-Some is_quote bytes end found in
    text-run end [] bytes (omega arith) ∙ rw (drop_more bytes end 0 at.0)
    (text-closes (take end bytes) (get_or bytes end 0) (drop (end + 1) bytes) at.1)

pub text-None : (bytes : List ℕ) → None ≡ position is_quote bytes
    → words_at (in_quoted []) bytes ≡ Err kinds.Quote
text-None bytes found = text-run (length bytes) [] bytes (pos-None is_quote bytes found) ∙ rw
    (drop-length bytes) (text-open (take (length bytes) bytes))

-- after a text the next word may begin, or nothing
pub behind_text : (bytes : List ℕ) → is_word_end bytes ≡ true
    → words_at after_quoted bytes ≡ words_at between bytes
unfolding words_at
behind_text [] h = refl
behind_text (byte ∷ bytes) h = grind (arith, common_steps)

pub behind_text_no : (bytes : List ℕ) → is_word_end bytes ≡ false
    → words_at after_quoted bytes ≡ Err kinds.Quote
unfolding words_at
behind_text_no [] h = absurd cc
behind_text_no (byte ∷ bytes) h = grind (arith, common_steps)

-- ---- any word

pub words-quote : (bytes : List ℕ) → 1 ≤ length bytes → get_or bytes 0 0 ≡ 34
    → words_at between bytes ≡ words_at (in_quoted []) (take (length bytes - 1) (drop 1 bytes))
unfolding words_at
words-quote [] some at = absurd (omega arith)
words-quote (byte ∷ bytes) some at = rw (take_rest (byte ∷ bytes) 1, at) refl

pub words-blank : (bytes : List ℕ) → 1 ≤ length bytes → get_or bytes 0 0 ≡ 32
    → words_at between bytes ≡ words_at between (take (length bytes - 1) (drop 1 bytes))
unfolding words_at
words-blank [] some at = absurd (omega arith)
words-blank (byte ∷ bytes) some at = rw (take_rest (byte ∷ bytes) 1, at) refl

pub words-bare : (bytes : List ℕ) → 1 ≤ length bytes → get_or bytes 0 0 ≢ 32 → get_or bytes 0 0 ≢ 34
    → words_at between bytes ≡ words_at (in_bare (take 1 bytes)) (drop 1 bytes)
unfolding words_at
words-bare [] some blank quote = absurd (omega arith)
words-bare (byte ∷ bytes) some blank quote = grind (arith, common_steps)

-- ---- all words of a line

pub with_words-nil : (words : Result (List Word) ScriptKind) → words ≡ with_words [] words
with_words-nil (Ok words) = refl
with_words-nil (Err kind) = refl

pub with_words-more : (front : List Word) (word : Word) (words : Result (List Word) ScriptKind)
    → with_words front (with_word word words) ≡ with_words (front ++ word ∷ []) words
with_words-more front word (Ok words) =
    ap (λ (ws : List Word). Ok ws) (sym (append_assoc front (word ∷ []) words))
with_words-more front word (Err kind) = refl

pub with_words-all : (front : List Word) → with_words front (words_at between []) ≡ Ok front
unfolding words_at
with_words-all front = ap (λ (ws : List Word). Ok ws) (append-nil front)

pub words-allowed : (line : List ℕ) → true ≡ list_all is_line_byte line
    → words_of line ≡ words_at between line
unfolding words_of
words-allowed line h = rw (← h) refl

pub words-not_allowed : (line : List ℕ) → false ≡ list_all is_line_byte line
    → words_of line ≡ Err kinds.Byte
unfolding words_of
words-not_allowed line h = rw (← h) refl

pub not-empty : (bytes : List ℕ) → false ≡ eqb (length bytes) 0 → 1 ≤ length bytes
not-empty [] h = absurd cc
not-empty (byte ∷ bytes) h = omega arith
