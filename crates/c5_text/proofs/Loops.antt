-- Reading one cell after the other, as a loop does.
use Rattle.std.proofs.Common.{◌≡◌, ◌∙◌, ℕ, suc, ◌+◌, ◌<◌, ◌≤◌, true, false, cond, eqb, leb, Option}
use Rattle.std.proofs.Common.{Some, None, List, [], ◌∷◌, ◌++◌, length, get_or, take, drop, set}
use Rattle.std.proofs.Common.{refl, sym, ap, append_assoc, arith, drop-cons}
use Rattle.std.proofs.lemmas.List.{append-nil, take_more_set, drop_all, length-take}
use Rattle.std.proofs.lemmas.Bool.{le-leb}
use Rattle.c5_rows.specs.Cells.{row_or_none}
use Rattle.c5_rows.specs.declared.cells.CellType.{CellType}
use Rattle.c5_rows.specs.declared.cells.Cell.{Cell}
use Rattle.c5_text.specs.Reading.{◌>>=◌, printed_cell_at, printed_cells_at, printed_row_at}

-- the cells that were read before, and those that are still read
abbrev pub with_cells : List Cell → Option (List Cell × List ℕ) → Option (List Cell × List ℕ)
with_cells before read = read >>= λ x. Some (before ++ x.0, x.1)

one_cell : (before : List Cell) (cell : Cell) (read : Option (List Cell × List ℕ))
    → with_cells before (read >>= λ x. Some (cell ∷ x.0, x.1))
    ≡ with_cells (before ++ cell ∷ []) read
one_cell before cell (Some x) = ap (λ (cells : List Cell). Some (cells, x.1))
    (sym (append_assoc before (cell ∷ []) x.0))
one_cell before cell None = refl

rest-of : {A : Type 0} (xs : List A) (i : ℕ) (d : A) → i < length xs
    → drop i xs ≡ get_or xs i d ∷ drop (i + 1) xs
rest-of xs i d lt =
    let e : suc i ≡ i + 1 = omega arith in
    drop-cons xs i d lt ∙ ap (λ (n : ℕ). get_or xs i d ∷ drop n xs) e

abbrev cells_after : List CellType → Option (Cell × List ℕ) → Option (List Cell × List ℕ)
cells_after columns read = read >>= λ c. printed_cells_at columns c.1
    >>= λ x. Some (c.0 ∷ x.0, x.1)

cells-step : (columns : List CellType) (i : ℕ) (d : CellType) (bytes : List ℕ)
    (read : Option (Cell × List ℕ)) → i < length columns
    → printed_cell_at (get_or columns i d) bytes ≡ read
    → printed_cells_at (drop i columns) bytes ≡ cells_after (drop (i + 1) columns) read
unfolding printed_cells_at
cells-step columns i d bytes read lt is =
    ap (λ (cs : List CellType). printed_cells_at cs bytes) (rest-of columns i d lt) ∙ ap
    (cells_after (drop (i + 1) columns)) is

pub cells-more : (columns : List CellType) (i : ℕ) (d : CellType) (cells : List Cell) (cell : Cell)
    (bytes after : List ℕ) (total : Option (List Cell × List ℕ))
    → i < length columns → i < length cells
    → printed_cell_at (get_or columns i d) bytes ≡ Some (cell, after)
    → with_cells (take i cells) (printed_cells_at (drop i columns) bytes) ≡ total
    → with_cells (take (i + 1) (set cells i cell))
    (printed_cells_at (drop (i + 1) columns) after) ≡ total
cells-more columns i d cells cell bytes after total lt room read so_far =
    let others = printed_cells_at (drop (i + 1) columns) after in
    ap (λ (f : List Cell). with_cells f others) (take_more_set cells i cell room)
    ∙ sym (one_cell (take i cells) cell others)
    ∙ sym (ap (with_cells (take i cells))
    (cells-step columns i d bytes (Some (cell, after)) lt read))
    ∙ so_far

pub cells-fail : (columns : List CellType) (i : ℕ) (d : CellType) (before : List Cell)
    (bytes : List ℕ) (total : Option (List Cell × List ℕ))
    → i < length columns → printed_cell_at (get_or columns i d) bytes ≡ None
    → with_cells before (printed_cells_at (drop i columns) bytes) ≡ total → total ≡ None
cells-fail columns i d before bytes total lt read so_far =
    sym so_far ∙ ap (with_cells before) (cells-step columns i d bytes None lt read)

pub cells-all : (columns : List CellType) (i : ℕ) (before : List Cell) (bytes : List ℕ)
    (total : Option (List Cell × List ℕ)) → length columns ≤ i
    → with_cells before (printed_cells_at (drop i columns) bytes) ≡ total
    → total ≡ Some (before, bytes)
unfolding printed_cells_at
cells-all columns i before bytes total le so_far =
    sym so_far ∙ ap (λ (cs : List CellType). with_cells before (printed_cells_at cs bytes))
    (drop_all i columns le) ∙ ap (λ (cells : List Cell). Some (cells, bytes)) (append-nil before)

-- ---- exactly the cells of a row

pub row-fail : (columns : List CellType) (bytes : List ℕ) → printed_cells_at columns bytes ≡ None
    → printed_row_at columns bytes ≡ None
unfolding printed_row_at
row-fail columns bytes e = rw e refl

row-done : (columns : List CellType) (bytes rest : List ℕ) (before : List Cell)
    → printed_cells_at columns bytes ≡ Some (before, rest)
    → printed_row_at columns bytes ≡ cond (eqb (length rest) 0) (Some before) None
unfolding printed_row_at
row-done columns bytes rest before e = rw e refl

pub row-left : (columns : List CellType) (bytes rest : List ℕ) (before : List Cell)
    → printed_cells_at columns bytes ≡ Some (before, rest) → false ≡ eqb (length rest) 0
    → printed_row_at columns bytes ≡ None
row-left columns bytes rest before e left =
    row-done columns bytes rest before e ∙ ap (λ b. cond b (Some before) None) (sym left)

pub row-whole : (columns : List CellType) (bytes rest : List ℕ) (before : List Cell)
    → printed_cells_at columns bytes ≡ Some (before, rest) → true ≡ eqb (length rest) 0
    → printed_row_at columns bytes ≡ Some before
row-whole columns bytes rest before e whole =
    row-done columns bytes rest before e ∙ ap (λ b. cond b (Some before) None) (sym whole)

-- the first 1 to 8 of eight cells are a row
pub row_or_none-is : (cells : List Cell) (n : ℕ) → 1 ≤ n → n ≤ 8 → length cells ≡ 8
    → row_or_none (take n cells) ≡ Some (take n cells)
row_or_none-is cells n some most full =
    let long : length (take n cells) ≡ n = omega (arith, length-take n cells) in
    let low : leb 1 (length (take n cells)) ≡ true =
    le-leb 1 (length (take n cells)) (omega arith) in
    let high : leb (length (take n cells)) 8 ≡ true =
    le-leb (length (take n cells)) 8 (omega arith) in
    rw (low, high) refl
