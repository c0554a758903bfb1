-- Words that are tested one after the other, as a loop does.
use Rattle.std.proofs.Common.{◌≡◌, ◌∙◌, ℕ, suc, ◌+◌, ◌<◌, ◌≤◌, List, [], ◌∷◌, ◌++◌, length, get_or}
use Rattle.std.proofs.Common.{drop, map, Some, None, Bool, true, false, cond, Result, Ok, Err, ◌≢◌}
use Rattle.std.proofs.Common.{refl, sym, ap, append_assoc, arith, drop-cons}
use Rattle.std.proofs.lemmas.Bool.{ne_eqb, eq-eqb}
use Rattle.std.proofs.lemmas.List.{append-nil, drop_all, length-map}
use Rattle.c5_rows.specs.declared.cells.CellType.{CellType}
use Rattle.c5_rows.specs.declared.cells.Cell.{Cell}
use Rattle.c5_definitions.specs.declared.script.ScriptKind.{ScriptKind}
use Rattle.c5_definitions.specs.declared.script.ScriptKind.TheVariants as kinds
use Rattle.c5_definitions.specs.declared.script.TurnWord.{TurnWord}
use Rattle.c5_definitions.specs.ScriptParts.{ScriptParts}
use Rattle.c5_script.specs.Partial.{with_turns}
use Rattle.c5_definitions.specs.Steps.{◌>>=◌}
use Rattle.c5_definitions.specs.Words.{Word}
use Rattle.c5_definitions.specs.Places.{turn_in, each_in, cell_in, cells_in, row_in}

-- what was read before, and what is still read
abbrev pub with_front : {A : Type 0} → List A → Result (List A) ScriptKind
    → Result (List A) ScriptKind
with_front front read = read >>= λ items. Ok (front ++ items)

abbrev before_items : {A : Type 0} → Result (List A) ScriptKind → A → Result (List A) ScriptKind
before_items read first = read >>= λ others. Ok (first ∷ others)

one_more : {A : Type 0} (front : List A) (x : A) (read : Result (List A) ScriptKind)
    → with_front front (before_items read x) ≡ with_front (front ++ x ∷ []) read
one_more front x (Ok items) = ap (λ (all : List _). Ok all)
    (sym (append_assoc front (x ∷ []) items))
one_more front x (Err kind) = refl

pub with_front-none : {A : Type 0} (read : Result (List A) ScriptKind) → with_front [] read ≡ read
with_front-none (Ok items) = refl
with_front-none (Err kind) = refl

pub rest-of : {A : Type 0} (xs : List A) (i : ℕ) (d : A) → i < length xs
    → drop i xs ≡ get_or xs i d ∷ drop (i + 1) xs
rest-of xs i d lt =
    let e : suc i ≡ i + 1 = omega arith in
    drop-cons xs i d lt ∙ ap (λ (n : ℕ). get_or xs i d ∷ drop n xs) e

-- ---- items that all pass the same test

each-step : {H A : Type 0} (view : H → Word) (test : Word → Result A ScriptKind) (xs : List H)
    (i : ℕ) (d : H) → i < length xs → each_in test (map view (drop i xs))
    ≡ (test (view (get_or xs i d)) >>= before_items (each_in test (map view (drop (i + 1) xs))))
unfolding each_in
each-step view test xs i d lt = ap (λ (ys : List _). each_in test (map view ys)) (rest-of xs i d lt)

pub each-more : {H A : Type 0} (view : H → Word) (test : Word → Result A ScriptKind) (xs : List H)
    (i : ℕ) (d : H) (front : List A) (x : A) (total : Result (List A) ScriptKind)
    → i < length xs → Ok x ≡ test (view (get_or xs i d))
    → with_front front (each_in test (map view (drop i xs))) ≡ total
    → with_front (front ++ x ∷ []) (each_in test (map view (drop (i + 1) xs))) ≡ total
each-more view test xs i d front x total lt read so_far =
    let others = each_in test (map view (drop (i + 1) xs)) in
    sym (one_more front x others)
    ∙ ap (λ (first : Result _ ScriptKind). with_front front (first >>= before_items others)) read
    ∙ sym (ap (with_front front) (each-step view test xs i d lt))
    ∙ so_far

pub each-fail : {H A : Type 0} (view : H → Word) (test : Word → Result A ScriptKind) (xs : List H)
    (i : ℕ) (d : H) (front : List A) (kind : ScriptKind) (total : Result (List A) ScriptKind)
    → i < length xs → Err kind ≡ test (view (get_or xs i d))
    → with_front front (each_in test (map view (drop i xs))) ≡ total → Err kind ≡ total
each-fail view test xs i d front kind total lt read so_far =
    let others = each_in test (map view (drop (i + 1) xs)) in
    ap (λ (first : Result _ ScriptKind). with_front front (first >>= before_items others)) read
    ∙ sym (ap (with_front front) (each-step view test xs i d lt))
    ∙ so_far

pub each-all : {H A : Type 0} (view : H → Word) (test : Word → Result A ScriptKind) (xs : List H)
    (i : ℕ) (front : List A) (total : Result (List A) ScriptKind) → length xs ≤ i
    → with_front front (each_in test (map view (drop i xs))) ≡ total → Ok front ≡ total
unfolding each_in
each-all view test xs i front total le so_far =
    ap (λ (all : List _). Ok all) (sym (append-nil front))
    ∙ sym (ap (λ (ys : List _). with_front front (each_in test (map view ys))) (drop_all i xs le))
    ∙ so_far

-- ---- cells, each of its column's type

cells-step : {H : Type 0} (view : H → Word) (columns : List CellType) (xs : List H) (i : ℕ)
    (c : CellType) (d : H) → i < length columns → i < length xs
    → cells_in (drop i columns) (map view (drop i xs))
    ≡ (cell_in (get_or columns i c) (view (get_or xs i d))
    >>= before_items (cells_in (drop (i + 1) columns) (map view (drop (i + 1) xs))))
unfolding cells_in
cells-step view columns xs i c d lc lx =
    ap (λ (cs : List CellType). cells_in cs (map view (drop i xs))) (rest-of columns i c lc)
    ∙ ap (λ (ys : List _). cells_in (get_or columns i c ∷ drop (i + 1) columns) (map view ys))
    (rest-of xs i d lx)

pub cells-more : {H : Type 0} (view : H → Word) (columns : List CellType) (xs : List H) (i : ℕ)
    (c : CellType) (d : H) (front : List Cell) (x : Cell) (total : Result (List Cell) ScriptKind)
    → i < length columns → i < length xs → Ok x
    ≡ cell_in (get_or columns i c) (view (get_or xs i d))
    → with_front front (cells_in (drop i columns) (map view (drop i xs))) ≡ total
    → with_front (front ++ x ∷ [])
    (cells_in (drop (i + 1) columns) (map view (drop (i + 1) xs))) ≡ total
cells-more view columns xs i c d front x total lc lx read so_far =
    let others = cells_in (drop (i + 1) columns) (map view (drop (i + 1) xs)) in
    sym (one_more front x others)
    ∙ ap (λ (first : Result Cell ScriptKind). with_front front (first >>= before_items others)) read
    ∙ sym (ap (with_front front) (cells-step view columns xs i c d lc lx))
    ∙ so_far

pub cells-fail : {H : Type 0} (view : H → Word) (columns : List CellType) (xs : List H) (i : ℕ)
    (c : CellType) (d : H) (front : List Cell) (kind : ScriptKind)
    (total : Result (List Cell) ScriptKind)
    → i < length columns → i < length xs → Err kind
    ≡ cell_in (get_or columns i c) (view (get_or xs i d))
    → with_front front (cells_in (drop i columns) (map view (drop i xs))) ≡ total → Err kind ≡ total
cells-fail view columns xs i c d front kind total lc lx read so_far =
    let others = cells_in (drop (i + 1) columns) (map view (drop (i + 1) xs)) in
    ap (λ (first : Result Cell ScriptKind). with_front front (first >>= before_items others)) read
    ∙ sym (ap (with_front front) (cells-step view columns xs i c d lc lx))
    ∙ so_far

pub cells-all : {H : Type 0} (view : H → Word) (columns : List CellType) (xs : List H) (i : ℕ)
    (front : List Cell) (total : Result (List Cell) ScriptKind) → length columns ≤ i
    → with_front front (cells_in (drop i columns) (map view (drop i xs))) ≡ total → Ok front ≡ total
unfolding cells_in
cells-all view columns xs i front total le so_far =
    ap (λ (all : List Cell). Ok all) (sym (append-nil front))
    ∙ sym (ap (λ (cs : List CellType). with_front front (cells_in cs (map view (drop i xs))))
    (drop_all i columns le))
    ∙ so_far

-- ---- the first of the items, and the whole

pub first-fails : {A : Type 0} (test : Word → Result A ScriptKind) (word : Word) (words : List Word)
    (kind : ScriptKind) → Err kind ≡ test word → Err kind ≡ each_in test (word ∷ words)
unfolding each_in
first-fails test word words kind e =
    ap (λ (first : Result _ ScriptKind). first >>= before_items (each_in test words)) e

pub first-read : {A : Type 0} (test : Word → Result A ScriptKind) (word : Word) (words : List Word)
    (x : A) → Ok x ≡ test word → with_front (x ∷ []) (each_in test words)
    ≡ each_in test (word ∷ words)
unfolding each_in
first-read test word words x e =
    ap (λ (first : Result _ ScriptKind). first >>= before_items (each_in test words)) e

pub row-counted : {H : Type 0} (view : H → Word) (columns : List CellType) (xs : List H)
    → length xs ≢ length columns → Err kinds.Count ≡ row_in columns (map view xs)
unfolding row_in
row-counted view columns xs ne =
    rw (length-map xs view, ne_eqb (length xs) (length columns) ne) refl

pub row-read : {H : Type 0} (view : H → Word) (columns : List CellType) (xs : List H)
    → length xs ≡ length columns → row_in columns (map view xs) ≡ cells_in columns (map view xs)
unfolding row_in
row-read view columns xs e = rw (length-map xs view, eq-eqb (length xs) (length columns) e) refl

-- what a test let through
pub is_chosen : {A : Type 0} (b : Bool) (x y : A) → Some y ≡ cond b (Some x) None → y ≡ x
is_chosen true x y e = cc
is_chosen false x y e = absurd cc

-- ---- turn words, which are added to a script one by one

abbrev with_turn : ScriptParts → TurnWord → ScriptParts
with_turn script word =
    record {
      tables = script.tables;
      bodies = script.bodies;
      reads = script.reads;
      turns = script.turns ++ word ∷ [];
    }

one_turn : (script : ScriptParts) (word : TurnWord) (read : Result (List TurnWord) ScriptKind)
    → with_turns script (before_items read word) ≡ with_turns (with_turn script word) read
one_turn script word (Ok others) =
    ap (λ (all : List TurnWord). Ok
    (record { tables = script.tables; bodies = script.bodies; reads = script.reads; turns = all }))
    (sym (append_assoc script.turns (word ∷ []) others))
one_turn script word (Err kind) = refl

pub turns-more : {H : Type 0} (view : H → Word) (xs : List H) (i : ℕ) (d : H)
    (script after : ScriptParts) (word : TurnWord) (total : Result ScriptParts ScriptKind)
    → i < length xs → Ok word ≡ turn_in (view (get_or xs i d)) → after ≡ with_turn script word
    → with_turns script (each_in turn_in (map view (drop i xs))) ≡ total
    → with_turns after (each_in turn_in (map view (drop (i + 1) xs))) ≡ total
turns-more view xs i d script after word total lt read same so_far =
    let others = each_in turn_in (map view (drop (i + 1) xs)) in
    ap (λ (s : ScriptParts). with_turns s others) same
    ∙ sym (one_turn script word others)
    ∙ ap (λ (first : Result TurnWord ScriptKind). with_turns script (first >>= before_items others))
    read
    ∙ sym (ap (with_turns script) (each-step view turn_in xs i d lt))
    ∙ so_far

pub turns-fail : {H : Type 0} (view : H → Word) (xs : List H) (i : ℕ) (d : H) (script : ScriptParts)
    (kind : ScriptKind) (total : Result ScriptParts ScriptKind)
    → i < length xs → Err kind ≡ turn_in (view (get_or xs i d))
    → with_turns script (each_in turn_in (map view (drop i xs))) ≡ total → total ≡ Err kind
turns-fail view xs i d script kind total lt read so_far =
    let others = each_in turn_in (map view (drop (i + 1) xs)) in
    sym so_far
    ∙ ap (with_turns script) (each-step view turn_in xs i d lt)
    ∙ sym (ap
    (λ (first : Result TurnWord ScriptKind). with_turns script (first >>= before_items others))
    read)

pub turns-all : {H : Type 0} (view : H → Word) (xs : List H) (i : ℕ) (script : ScriptParts)
    (total : Result ScriptParts ScriptKind) → length xs ≤ i
    → with_turns script (each_in turn_in (map view (drop i xs))) ≡ total → total ≡ Ok script
unfolding each_in
turns-all view xs i script total le so_far =
    sym so_far
    ∙ ap (λ (ys : List _). with_turns script (each_in turn_in (map view ys))) (drop_all i xs le)
    ∙ ap (λ (all : List TurnWord). Ok
    (record {
      tables = script.tables;
      bodies = script.bodies;
      reads = script.reads;
      turns = all;
    })) (append-nil script.turns)
