-- One more transaction, cell or row that is counted.
use Rattle.std.proofs.Common.{◌≡◌, ◌∙◌, ◌+◌, ◌<◌, ◌*◌, ◌∷◌, [], ℕ, ℤ, pos, neg_ℤ, ◌+ℤ◌, ◌≤ℤ◌}
use Rattle.std.proofs.Common.{List, Bool, Option, Some, None, cond, drop, get_or, length, nat_eq}
use Rattle.std.proofs.Common.{ap, sym, arith, FitsSigned, to_z, of_z, w64}
use Rattle.std.specs.Int.{w128}
use Rattle.std.specs.Prelude.{option_map, slice_get}
use Rattle.std.specs.List.{count_by}
use Rattle.std.proofs.lemmas.Int.{ints}
use Rattle.std.proofs.lemmas.List.{drop_more}
use Rattle.std.proofs.lemmas.List.Sums.{sum_by-drop_more}
use Rattle.std.proofs.lemmas.Option.{slice_get-get_or}
use Rattle.c5_rows.specs.declared.cells.Cell.{Cell}
use Rattle.c5_rows.specs.declared.rows.RowEntry.{RowEntry}
use Rattle.c5_rows.specs.declared.writes.Txn.{Txn}
use Rattle.c5_definitions.specs.Answers.{or_zero}
use Rattle.c5_definitions.specs.Effects.{int_of_cell}
use Rattle.c5_definitions.specs.Summaries.{is_declined, row_total, rows_total}
use Rattle.c5_frames.specs.Index.{txn_ref_of}
use Rattle.c5_frames.specs.declared.index.TxnRef.{TxnRef}
use Rattle.c5_driver.specs.Figures.{max_row_total}

-- ---- transactions

abbrev no_txn : Txn
no_txn = record { script = 0; stamp = 0; writes = [] }

abbrev count_in : Option TxnRef → ℕ
count_in None = 0
count_in (Some r) = r.count

writes-at : (txns : List Txn) (p n : ℕ) (r : TxnRef) → p < length txns
    → Some r ≡ option_map (txn_ref_of n) (slice_get txns p)
    → r.count ≡ length (get_or txns p no_txn).writes
writes-at txns p n r lt entry =
    ap count_in
    (entry ∙ ap (option_map (txn_ref_of n)) (slice_get-get_or txns p no_txn lt))

-- one more transaction, which has no writes or some
pub declined-on : (txns : List Txn) (p n declined : ℕ) (r : TxnRef) (b : Bool) → p < length txns
    → Some r ≡ option_map (txn_ref_of n) (slice_get txns p) → nat_eq r.count 0 ≡ b
    → declined + count_by is_declined (drop p txns) ≡ count_by is_declined txns
    → (declined + cond b 1 0) + count_by is_declined (drop (p + 1) txns)
    ≡ count_by is_declined txns
declined-on txns p n declined r b lt entry is before =
    let same : ◌≡◌ {A = ℕ} (cond (is_declined (get_or txns p no_txn)) 1 0) (cond b 1 0) =
    ap (λ x. cond x 1 0) (ap (λ m. nat_eq m 0) (sym (writes-at txns p n r lt entry)) ∙ is) in
    let more = sum_by-drop_more (λ (t : Txn). cond (is_declined t) 1 0) txns p no_txn lt in
    omega (arith, same, more, before)

-- ---- cells and rows

added : (sum number rest : ℤ) → (sum +ℤ number) +ℤ rest ≡ sum +ℤ (number +ℤ rest)
added sum number rest = omega (arith, ints)

pub cells-on : (cells : List Cell) (i : ℕ) (cell : Cell) (sum number : ℤ) → i < length cells
    → cell ≡ get_or cells i cell → number ≡ or_zero (int_of_cell (Some cell))
    → (sum +ℤ number) +ℤ row_total (drop (i + 1) cells) ≡ sum +ℤ row_total (drop i cells)
cells-on cells i cell sum number lt is e =
    added sum number (row_total (drop (i + 1) cells))
    ∙ ap (λ n. sum +ℤ (n +ℤ row_total (drop (i + 1) cells))) e
    ∙ ap (λ c. sum +ℤ row_total (c ∷ drop (i + 1) cells)) is
    ∙ ap (λ cs. sum +ℤ row_total cs) (sym (drop_more cells i cell lt))

pub rows-on : (entries : List RowEntry) (i : ℕ) (entry : RowEntry) (sum number : ℤ)
    → i < length entries → entry ≡ get_or entries i entry → number ≡ row_total entry.row
    → (sum +ℤ number) +ℤ rows_total (drop (i + 1) entries) ≡ sum +ℤ rows_total (drop i entries)
rows-on entries i entry sum number lt is e =
    added sum number (rows_total (drop (i + 1) entries))
    ∙ ap (λ n. sum +ℤ (n +ℤ rows_total (drop (i + 1) entries))) e
    ∙ ap (λ x. sum +ℤ rows_total (x ∷ drop (i + 1) entries)) is
    ∙ ap (λ es. sum +ℤ rows_total es) (sym (drop_more entries i entry lt))

-- the sum of an i64 and of at most seven others is an i128
pub cell-fits : (sum number : ℤ) (i : ℕ) → i < 8 → neg_ℤ (pos (9223372036854775808 * i)) ≤ℤ sum
    → sum ≤ℤ pos (9223372036854775808 * i) → FitsSigned w64 number →
    to_z w128 (of_z w128 (sum +ℤ to_z w128 (of_z w128 (to_z w64 (of_z w64 number)))))
    ≡ sum +ℤ number
cell-fits sum number i lt low high fits = omega (arith, ints)

-- the sum of a row and of at most 65,535 others is an i128
pub row-fits : (sum number : ℤ) (i : ℕ) → i < 65536 → neg_ℤ (pos (max_row_total * i)) ≤ℤ sum
    → sum ≤ℤ pos (max_row_total * i) → neg_ℤ (pos max_row_total) ≤ℤ number
    → number ≤ℤ pos max_row_total
    → to_z w128 (of_z w128 (sum +ℤ to_z w128 (of_z w128 number))) ≡ sum +ℤ number
row-fits sum number i lt low high least most = omega (arith, ints)
