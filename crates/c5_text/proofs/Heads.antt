-- Reading a number after a space, or after a label and a space.
use Rattle.std.proofs.Common.{◌≡◌, ◌∙◌, ℕ, ◌^◌, ◌<◌, Bool, true, false, eqb, Some, None, List, []}
use Rattle.std.proofs.Common.{◌∷◌, ◌++◌, take, drop, refl, sym, ap, append_assoc, arith}
use Rattle.std.specs.Prelude.{IsTrue, codes}
use Rattle.std.specs.Fmt.{decimal}
use Rattle.std.proofs.lemmas.Fmt.{decimal_is_IsNumeral}
use Rattle.std.proofs.lemmas.List.{append_cancel_left, append-nil, take-append-drop}
use Rattle.c5_definitions.specs.Lines.{is_word_end}
use Rattle.c5_definitions.specs.Outputs.{number_text, head_line}
use Rattle.c5_definitions.proofs.NumberTexts.{number-cut, word_end-ends}
use Rattle.c5_text.specs.Readers.{IsAfter, IsHead}
use Rattle.c5_text.specs.declared.replies.ReplyHead.{ReplyHead}
use Rattle.c5_text.specs.Reading.{bytes_before, rest_after_byte}
use Rattle.c5_text.proofs.Laws.{cut-prefix, rest_after_byte-sound, rest_after_byte-again}
use Rattle.c5_text.proofs.Laws.{digits-other}

-- ---- after a space

word_end-before : (bytes : List ℕ) → IsTrue (is_word_end bytes) → bytes_before 32 bytes ≡ 0
unfolding bytes_before
word_end-before [] is = refl
word_end-before (byte ∷ bytes) is = let space : eqb byte 32 ≡ true = is in rw space refl

drop-ends : (bytes : List ℕ) → IsTrue (is_word_end (drop (bytes_before 32 bytes) bytes))
unfolding bytes_before
drop-ends [] = refl
drop-ends (byte ∷ bytes) = by (eqb byte 32) refl (drop-ends bytes)
  where
    by : (b : Bool) → eqb byte 32 ≡ b → IsTrue (is_word_end (drop (bytes_before 32 bytes) bytes))
        → IsTrue (is_word_end (drop (bytes_before 32 (byte ∷ bytes)) (byte ∷ bytes)))
    by true space ends = rw space space
    by false other ends = rw other ends

-- what was read is a number after a space, and what follows it
pub number-found : (bytes rest digits after : List ℕ) (count n : ℕ)
    → Some rest ≡ rest_after_byte 32 bytes → count ≡ bytes_before 32 rest → digits ≡ take count rest
    → after ≡ drop count rest → digits ≡ decimal n
    → IsTrue (is_word_end after) × (bytes ≡ number_text n ++ after)
number-found bytes rest digits after count n space counted prefix back is =
    let cut : after ≡ drop (bytes_before 32 rest) rest =
    back ∙ ap (λ (k : ℕ). drop k rest) counted in
    let whole : rest ≡ decimal n ++ after =
    sym (take-append-drop count rest) ∙ ap (λ (t : List ℕ). t ++ drop count rest)
    (sym prefix ∙ is) ∙ ap (λ (t : List ℕ). decimal n ++ t) (sym back) in (
      rw cut (drop-ends rest),
      rest_after_byte-sound 32 bytes rest (sym space) ∙ ap (λ (t : List ℕ). 32 ∷ t) whole,
    )

-- the digits that are cut off are those of the number
pub number-digits : (bytes rest digits : List ℕ) (count n : ℕ) (after : List ℕ)
    → Some rest ≡ rest_after_byte 32 bytes → count ≡ bytes_before 32 rest → digits ≡ take count rest
    → n < 2 ^ 32 → IsTrue (is_word_end after)
    → bytes ≡ number_text n ++ after → digits ≡ decimal n
number-digits bytes rest digits count n after space counted prefix lt ends is =
    let same : rest ≡ decimal n ++ after =
    (let e = space ∙ ap (rest_after_byte 32) is ∙ rest_after_byte-again 32
    (decimal n ++ after) in cc) in
    let free = digits-other (decimal n) (decimal_is_IsNumeral n (omega (arith, lt))).0.1 in
    let cut = cut-prefix 32 (decimal n) after free (word_end-before after ends) in
    prefix ∙ ap (λ (k : ℕ). take k rest) counted ∙ ap
    (λ (t : List ℕ). take (bytes_before 32 t) t) same ∙ cut

pub no-space : (bytes : List ℕ) (n : ℕ) (after : List ℕ) → None ≡ rest_after_byte 32 bytes
    → bytes ≡ number_text n ++ after → ⊥
no-space bytes n after none is = let e =
    none ∙ ap (rest_after_byte 32) is ∙ rest_after_byte-again 32 (decimal n ++ after) in cc

-- ---- after labels

pub label-cut : (label line : List ℕ) (m n : ℕ) (s t : List ℕ) → m < 2 ^ 32 → n < 2 ^ 32
    → IsTrue (is_word_end s) → IsTrue (is_word_end t) → line ≡ label ++ (number_text m ++ s)
    → line ≡ label ++ (number_text n ++ t) → (m ≡ n) × (s ≡ t)
label-cut label line m n s t small_m small_n es et one other =
    number-cut m n s t (omega (arith, small_m)) (omega (arith, small_n)) (word_end-ends s es)
    (word_end-ends t et)
    (append_cancel_left label (number_text m ++ s) (number_text n ++ t) (sym one ∙ other))

regroup : (a b c d e f : List ℕ) → ((((a ++ b) ++ c) ++ d) ++ e) ++ f
    ≡ a ++ (b ++ (c ++ (d ++ (e ++ (f ++ [])))))
regroup a b c d e f = simp (append_assoc, append-nil)

-- the label, the number and what follows them
abbrev pub after_place : ℕ → List ℕ
after_place lag = codes " lag" ++ (number_text lag ++ [])

abbrev pub after_session : ℕ → ℕ → List ℕ
after_session place lag = codes " place" ++ (number_text place ++ after_place lag)

pub head-parts : (session place lag : ℕ) → head_line session place lag
    ≡ codes "read" ++ (number_text session ++ after_session place lag)
head-parts session place lag = regroup (codes "read") (number_text session) (codes " place")
    (number_text place) (codes " lag") (number_text lag)

pub session-cut : (line after : List ℕ) (session : ℕ) (head : ReplyHead)
    → IsAfter (codes "read") line session after → IsHead line head → (session ≡ head.session)
    × (after ≡ after_session head.place head.lag)
session-cut line after session head found is =
    label-cut (codes "read") line session head.session after
    (after_session head.place head.lag) found.small is.small_session found.ends refl
    found.spelled (is.spelled ∙ head-parts head.session head.place head.lag)

pub place-cut : (line after last : List ℕ) (session place : ℕ) (head : ReplyHead)
    → IsAfter (codes "read") line session after → IsAfter (codes " place") after place last
    → IsHead line head → (place ≡ head.place) × (last ≡ after_place head.lag)
place-cut line after last session place head found next is =
    label-cut (codes " place") after place head.place last
    (after_place head.lag) next.small is.small_place next.ends refl next.spelled
    (session-cut line after session head found is).1

pub lag-cut : (line after last end : List ℕ) (session place lag : ℕ) (head : ReplyHead)
    → IsAfter (codes "read") line session after → IsAfter (codes " place") after place last
    → IsAfter (codes " lag") last lag end → IsHead line head → (lag ≡ head.lag) × (end ≡ [])
lag-cut line after last end session place lag head found next third is =
    label-cut
    (codes " lag") last lag head.lag end [] third.small is.small_lag third.ends refl
    third.spelled (place-cut line after last session place head found next is).1
