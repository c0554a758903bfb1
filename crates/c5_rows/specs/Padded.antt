-- A short list held in an array: its items first, and then one blank as often as fits.
use Rattle.std.specs.Prelude.{◌≡◌, ◌<◌, ◌≤◌, ◌-◌, ◌+◌, ◌++◌, ◌∷◌, [], ℕ, List, length, take, drop}
use Rattle.std.specs.Prelude.{replicate}
use Rattle.std.proofs.Common.{arith, sym, ◌∙◌, ap, set}
use Rattle.std.proofs.lemmas.List.{length-take, length-append, length-replicate, length-set}
use Rattle.std.proofs.lemmas.List.{length-drop, drop-replicate, drop-drop, drop-set-lt, drop_at}
use Rattle.std.proofs.lemmas.List.{take_at, take-append-drop, take_more_set}

-- the array has its size, and past the length it has blanks alone
pub record IsPadded {X : Type 0} (blank : X) (size len : ℕ) (cells : List X) : Type 0 where
  pub fits : len ≤ size
  pub full : length cells ≡ size
  pub padding : drop len cells ≡ replicate (size - len) blank

-- the array of a list
abbrev pub padded : {X : Type 0} → X → ℕ → List X → List X
padded blank size items = items ++ replicate (size - length items) blank

-- ---- an array and its items

pub length-of_padded : {X : Type 0} (blank : X) (size len : ℕ) (cells : List X)
    → IsPadded blank size len cells → length (take len cells) ≡ len
length-of_padded blank size len cells p = let le = p.fits in let full = p.full in
    omega (arith, length-take len cells)

-- the items give the array back
pub padded-take : {X : Type 0} (blank : X) (size len : ℕ) (cells : List X)
    → IsPadded blank size len cells → padded blank size (take len cells) ≡ cells
padded-take blank size len cells p =
    ap (λ (n : ℕ). take len cells ++ replicate (size - n) blank)
    (length-of_padded blank size len cells p)
    ∙ ap (λ xs. take len cells ++ xs) (sym p.padding)
    ∙ take-append-drop len cells

-- items copied over the first places of an array of blanks
pub IsPadded-copied : {X : Type 0} (blank : X) (size : ℕ) (items front : List X)
    → length items ≤ size → front ≡ items
    → IsPadded blank size (length items) (front ++ drop (length items) (replicate size blank))
IsPadded-copied blank size items front le same =
    let n = length items in
    let len : length front ≡ n = ap length same in
    let rest : drop n (replicate size blank) ≡ replicate (size - n) blank =
    drop-replicate n size blank in
    record {
      fits = le;
      full = omega (
        arith,
        length-append front (drop n (replicate size blank)),
        ap length rest,
        length-replicate (size - n) blank,
      );
      padding = drop_at front (drop n (replicate size blank)) n len ∙ rest;
    }

-- what the array of items is to contracts
pub take-copied : {X : Type 0} (blank : X) (size : ℕ) (items front : List X) → front ≡ items
    → take (length items) (front ++ drop (length items) (replicate size blank)) ≡ items
take-copied blank size items front same =
    take_at front (drop (length items) (replicate size blank)) (length items)
    (ap length same) ∙ same

-- ---- other items, and one more item

-- other items in place of all of them
pub IsPadded-front : {X : Type 0} (blank : X) (size len : ℕ) (front cells : List X)
    → length front ≡ len → IsPadded blank size len cells
    → IsPadded blank size len (front ++ drop len cells)
IsPadded-front blank size len front cells same p = record {
  fits = p.fits;
  full = let fits = p.fits in let full = p.full in
      omega (arith, length-append front (drop len cells), length-drop len cells);
  padding = drop_at front (drop len cells) len same ∙ p.padding;
}

pub take-front : {X : Type 0} (len : ℕ) (front cells : List X) → length front ≡ len
    → take len (front ++ drop len cells) ≡ front
take-front len front cells same = take_at front (drop len cells) len same

pub IsPadded-push : {X : Type 0} (blank : X) (size len : ℕ) (x : X) (cells : List X)
    → IsPadded blank size len cells → len < size → IsPadded blank size (len + 1) (set cells len x)
IsPadded-push blank size len x cells p lt =
    let less : size - len - 1 ≡ size - (len + 1) = omega arith in
    record {
      fits = omega arith;
      full = length-set cells len x ∙ p.full;
      padding = drop-set-lt (len + 1) cells len x (omega arith)
          ∙ sym (drop-drop 1 len cells)
          ∙ ap (drop 1) p.padding
          ∙ drop-replicate 1 (size - len) blank
          ∙ ap (λ (n : ℕ). replicate n blank) less;
    }

pub take-set-push : {X : Type 0} (size len : ℕ) (x : X) (cells : List X) → length cells ≡ size
    → len < size → take (len + 1) (set cells len x) ≡ take len cells ++ x ∷ []
take-set-push size len x cells full lt = take_more_set cells len x (omega arith)
