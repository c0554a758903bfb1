-- What is spelled is read again: numbers, checked bytes, and payloads.
use Rattle.std.proofs.Common.{◌≡◌, ◌∙◌, ℕ, ◌*◌, ◌^◌, ◌<◌, ◌≤◌, Bool, true, false, ◌&&◌, eqb, leb}
use Rattle.std.proofs.Common.{ltb, List, [], ◌∷◌, ◌++◌, length, drop, map, Option, Some, None}
use Rattle.std.proofs.Common.{Result, Ok, Err, refl, sym, ap, subst, append_assoc, arith}
use mir.ValLaws.{of_z_fits}
use Rattle.std.specs.Int.{w64, cast_unsigned}
use Rattle.std.specs.Prelude.{FitsSigned, slice_get, MatchOption}
use Rattle.std.specs.List.{flat_map, AllByRecursion}
use Rattle.std.proofs.lemmas.Bool.{eq-eqb, le-ltb, le-leb, and_from}
use Rattle.std.proofs.lemmas.Int.{to_z-of_z}
use Rattle.std.proofs.lemmas.List.Elements.{All-get_or, All-from_recursion}
use Rattle.std.proofs.lemmas.Option.{slice_get_within, get_or_from_slice_get}
use Rattle.std.proofs.lemmas.List.{append-nil, take_at, drop_at, length-append, length-map}
use Rattle.byteorder.specs.Numbers.{big_number-reads_back}
use Rattle.c5_rows.specs.Bytes.{AreBytes, checked_bytes, is_key_byte, is_text_byte}
use Rattle.c5_rows.specs.Cells.{type_of}
use Rattle.c5_rows.specs.Fitting.{FitsColumns, FitsTables}
use Rattle.c5_rows.specs.declared.cells.CellType.{CellType}
use Rattle.c5_rows.specs.declared.cells.Cell.{Cell}
use Rattle.c5_rows.specs.declared.cells.Cell.TheVariants.{Int, Txt}
use Rattle.c5_rows.specs.declared.tables.TableDef.{TableDef}
use Rattle.c5_rows.specs.declared.writes.Change.{Change}
use Rattle.c5_rows.specs.declared.writes.Change.TheVariants.{Put, Gone}
use Rattle.c5_rows.specs.declared.writes.Write.{Write}
use Rattle.c5_rows.specs.declared.writes.Txn.{Txn}
use Rattle.c5_definitions.specs.Lawful.{IsLawfulTable, IsLawfulCell, IsLawfulChange, IsLawfulWrite}
use Rattle.c5_definitions.specs.Spelling.{spelled_u32, spelled_u64, spelled_cell, spelled_change}
use Rattle.c5_definitions.specs.Spelling.{write_payload, mark_payload, end_payload}
use Rattle.c5_definitions.specs.declared.fault.LogKind.{LogKind}
use Rattle.c5_definitions.specs.declared.fault.LogKind.TheVariants as kinds
use Rattle.c5_definitions.specs.Numbers.{number_32, number_64, signed_64}
use Rattle.c5_definitions.specs.Frames.{write, mark, end, key_at, text_at, int_at, cell_at}
use Rattle.c5_definitions.specs.Frames.{cells_at, row_at, change_at, table_numbered, write_at}
use Rattle.c5_definitions.specs.Frames.{mark_at, end_at, frame_at}

-- ---- numbers and checked bytes

pub u32-again : (n : ℕ) (rest : List ℕ) → n < 2 ^ 32 → number_32 (spelled_u32 n ++ rest) ≡ n
unfolding number_32 spelled_u32
u32-again n rest lt = big_number-reads_back 4 n rest lt

pub u64-again : (n : ℕ) (rest : List ℕ) → n < 2 ^ 64 → number_64 (spelled_u64 n ++ rest) ≡ n
unfolding number_64 spelled_u64
u64-again n rest lt = big_number-reads_back 8 n rest lt

pub u32-length : (n : ℕ) → length (spelled_u32 n) ≡ 4
unfolding spelled_u32
u32-length n = refl

pub u64-length : (n : ℕ) → length (spelled_u64 n) ≡ 8
unfolding spelled_u64
u64-length n = refl

unsigned-below : (n : _) → FitsSigned w64 n → cast_unsigned w64 n < 2 ^ 64
unsigned-below n fits = (of_z_fits w64 n fits).fits

pub i64-again : (n : _) (rest : List ℕ) → FitsSigned w64 n
    → signed_64 (spelled_u64 (cast_unsigned w64 n) ++ rest) ≡ n
unfolding signed_64
i64-again n rest fits = rw (u64-again (cast_unsigned w64 n) rest (unsigned-below n fits))
    (to_z-of_z w64 n fits)

pub checked-again : (least most : ℕ) (allowed : ℕ → Bool) (bytes : List ℕ)
    → AreBytes least most allowed bytes → checked_bytes least most allowed bytes ≡ Ok bytes
checked-again least most allowed bytes are =
    let sizes : (leb least (length bytes) && leb (length bytes) most) ≡ true =
    and_from _ _ (le-leb _ _ are.no_shorter) (le-leb _ _ are.no_longer) in
    rw (sizes, are.each) refl

-- ---- keys and cells

pub long_enough : (front rest : List ℕ) → ltb (length (front ++ rest)) (length front) ≡ false
long_enough front rest = le-ltb _ _ (omega (arith, length-append front rest))

key-again : (key rest : List ℕ) → AreBytes 1 32 is_key_byte key
    → key_at (length key ∷ key ++ rest) ≡ Ok (key, rest)
unfolding key_at
key-again key rest are =
    rw (
      long_enough key rest,
      take_at key rest (length key) refl,
      drop_at key rest (length key) refl,
      checked-again 1 32 is_key_byte key are,
    ) refl

text-again : (text rest : List ℕ) → AreBytes 0 32 is_text_byte text
    → text_at (length text ∷ text ++ rest) ≡ Ok (Txt text, rest)
unfolding text_at
text-again text rest are =
    rw (
      long_enough text rest,
      take_at text rest (length text) refl,
      drop_at text rest (length text) refl,
      checked-again 0 32 is_text_byte text are,
    ) refl

cell-again : (cell : Cell) (rest : List ℕ) → IsLawfulCell cell
    → cell_at (type_of cell) (spelled_cell cell ++ rest) ≡ Ok (cell, rest)
unfolding cell_at int_at spelled_cell
cell-again (Int n) rest fits =
    let text = spelled_u64 (cast_unsigned w64 n) in
    let len : length text ≡ 8 = u64-length (cast_unsigned w64 n) in
    let long : ltb (length (text ++ rest)) 8 ≡ false =
    le-ltb _ _ (omega (arith, length-append text rest)) in
    rw (long, drop_at text rest 8 len, i64-again n rest fits) refl
cell-again (Txt text) rest are = text-again text rest are

cells-again : (row : List Cell) (rest : List ℕ) → AllByRecursion IsLawfulCell row
    → cells_at (map type_of row) (flat_map spelled_cell row ++ rest) ≡ Ok (row, rest)
unfolding cells_at
cells-again [] rest fits = refl
cells-again (cell ∷ row) rest fits =
    ap (cells_at (map type_of (cell ∷ row)))
    (append_assoc (spelled_cell cell) (flat_map spelled_cell row) rest)
    ∙ rw (
      cell-again cell (flat_map spelled_cell row ++ rest) fits.0,
      cells-again row rest fits.1,
    ) refl

row-again : (row : List Cell) → AllByRecursion IsLawfulCell row
    → row_at (map type_of row) (flat_map spelled_cell row) ≡ Ok row
unfolding row_at
row-again row fits =
    let cells : cells_at (map type_of row) (flat_map spelled_cell row) ≡ Ok (row, []) =
    ap (cells_at (map type_of row))
    (sym (append-nil (flat_map spelled_cell row))) ∙ cells-again row [] fits in
    rw cells refl

-- ---- what frames hold

change-again : (change : Change) (columns : List CellType) → IsLawfulChange change
    → FitsColumns change columns → change_at columns (spelled_change change) ≡ Ok change
unfolding change_at spelled_change
change-again (Put row) columns lawful fits = rw (← fits, row-again row lawful) refl
change-again Gone columns lawful fits = refl

-- the table that a write fits
table-again : (tables : List TableDef) (entry : Write) → FitsTables tables entry
    → (table : TableDef) × (slice_get tables entry.name.table ≡ Some table)
    × FitsColumns entry.change table.columns
table-again tables entry fits =
    elim (slice_get tables entry.name.table) as
    (λ (o : Option TableDef). slice_get tables entry.name.table ≡ o
    → MatchOption o ⊥ (λ t. FitsColumns entry.change t.columns) → (table : TableDef)
    × (slice_get tables entry.name.table ≡ Some table)
    × FitsColumns entry.change table.columns) [
      | None ↦ λ e f. absurd f
      | Some table ↦ λ e f. (table, e, f)
    ] refl fits

numbered : (tables : List TableDef) (number : ℕ) (table : TableDef)
    → slice_get tables number ≡ Some table → table_numbered number tables ≡ Ok table
unfolding table_numbered
numbered tables number table found =
    ap (λ (o : Option TableDef). elim o as
    (λ _. Result TableDef LogKind) [ None ↦ Err kinds.Table | Some t ↦ Ok t ]) found

pub write-again : (tables : List TableDef) (entry : Write) → IsLawfulWrite tables entry
    → frame_at tables (write_payload entry) ≡ Ok (write entry)
unfolding frame_at write_at write_payload
write-again tables entry lawful =
    let table = table-again tables entry lawful.fits in
    rw (
      numbered tables entry.name.table table.0 table.1,
      key-again entry.name.key (spelled_change entry.change) lawful.key,
      change-again entry.change table.0.columns lawful.change table.2,
    ) refl

pub mark-again : (tables : List TableDef) (txn : Txn) → txn.script < 2 ^ 32 → txn.stamp < 2 ^ 64
    → length txn.writes < 2 ^ 32 → frame_at tables (mark_payload txn)
    ≡ Ok (mark (record { script = txn.script; stamp = txn.stamp; count = length txn.writes }))
unfolding frame_at mark_at mark_payload
mark-again tables txn script stamp few =
    let a = spelled_u32 txn.script in
    let b = spelled_u64 txn.stamp in
    let c = spelled_u32 (length txn.writes) in
    let la : length a ≡ 4 = u32-length txn.script in
    let lb : length b ≡ 8 = u64-length txn.stamp in
    let lc : length c ≡ 4 = u32-length (length txn.writes) in
    let lab : length (a ++ b) ≡ 12 = omega (arith, length-append a b) in
    let whole : eqb (length (a ++ b ++ c)) 16 ≡ true =
    eq-eqb _ _ (omega (arith, length-append (a ++ b) c)) in
    let first : number_32 (a ++ b ++ c) ≡ txn.script =
    ap number_32 (append_assoc a b c) ∙ u32-again txn.script (b ++ c) script in
    let second : number_64 (drop 4 (a ++ b ++ c)) ≡ txn.stamp =
    ap (λ (t : List ℕ). number_64 (drop 4 t)) (append_assoc a b c) ∙ ap number_64
    (drop_at a (b ++ c) 4 la) ∙ u64-again txn.stamp c stamp in
    let third : number_32 (drop 12 (a ++ b ++ c)) ≡ length txn.writes =
    ap number_32 (drop_at (a ++ b) c 12 lab ∙ sym (append-nil c)) ∙ u32-again
    (length txn.writes) [] few in
    rw (whole, first, second, third) refl

pub end-again : (tables : List TableDef) (count : ℕ) → count < 2 ^ 32
    → frame_at tables (end_payload count) ≡ Ok (end count)
unfolding frame_at end_at end_payload
end-again tables count few =
    let whole : eqb (length (spelled_u32 count)) 4 ≡ true = eq-eqb _ _ (u32-length count) in
    let number : number_32 (spelled_u32 count) ≡ count =
    ap number_32 (sym (append-nil (spelled_u32 count))) ∙ u32-again count [] few in
    rw (whole, number) refl

-- ---- frames

-- how long a payload may be
pub record IsSized (payload : List ℕ) : Type 0 where
  pub no_shorter : 5 ≤ length payload
  pub no_longer : length payload ≤ 300

cell-short : (cell : Cell) → IsLawfulCell cell → length (spelled_cell cell) ≤ 33
unfolding spelled_cell
cell-short (Int n) fits = omega (arith, u64-length (cast_unsigned w64 n))
cell-short (Txt text) are = let le = are.no_longer in omega arith

cells-short : (row : List Cell) → AllByRecursion IsLawfulCell row
    → length (flat_map spelled_cell row) ≤ 33 * length row
cells-short [] fits = omega arith
cells-short (cell ∷ row) fits =
    omega (
      arith,
      length-append (spelled_cell cell) (flat_map spelled_cell row),
      cell-short cell fits.0,
      cells-short row fits.1,
    )

change-short : (change : Change) (columns : List CellType) → IsLawfulChange change
    → FitsColumns change columns → length columns ≤ 8 → length (spelled_change change) ≤ 265
unfolding spelled_change
change-short (Put row) columns lawful fits few =
    omega (arith, cells-short row lawful, ap length fits, length-map row type_of)
change-short Gone columns lawful fits few = omega arith

change-some : (change : Change) → 1 ≤ length (spelled_change change)
unfolding spelled_change
change-some (Put row) = omega arith
change-some Gone = omega arith

table-lawful : (tables : List TableDef) (number : ℕ) (table : TableDef)
    → AllByRecursion IsLawfulTable tables → slice_get tables number ≡ Some table
    → IsLawfulTable table
table-lawful tables number table each found =
    subst IsLawfulTable (get_or_from_slice_get tables number table table found)
    (All-get_or IsLawfulTable tables number table (slice_get_within tables number table found)
    (All-from_recursion IsLawfulTable tables each))

pub write-sized : (tables : List TableDef) (entry : Write) → AllByRecursion IsLawfulTable tables
    → IsLawfulWrite tables entry → IsSized (write_payload entry)
unfolding write_payload
write-sized tables entry each lawful =
    let table = table-again tables entry lawful.fits in
    let few = (table-lawful tables entry.name.table table.0 each table.1).few in
    let low = lawful.key.no_shorter in
    let high = lawful.key.no_longer in
    let key = entry.name.key in
    let change = spelled_change entry.change in
    record {
      no_shorter = omega (arith, length-append key change, change-some entry.change);
      no_longer =
          omega (
            arith,
            length-append key change,
            change-short entry.change table.0.columns lawful.change table.2 few,
          );
    }

pub mark-sized : (txn : Txn) → IsSized (mark_payload txn)
unfolding mark_payload
mark-sized txn =
    let a = spelled_u32 txn.script in
    let b = spelled_u64 txn.stamp in
    let c = spelled_u32 (length txn.writes) in
    let len : length (67 ∷ a ++ b ++ c) ≡ 17 =
    omega (
      arith,
      length-append (a ++ b) c,
      length-append a b,
      u32-length txn.script,
      u64-length txn.stamp,
      u32-length (length txn.writes),
    ) in
    record { no_shorter = omega arith; no_longer = omega arith }

pub end-sized : (count : ℕ) → IsSized (end_payload count)
unfolding end_payload
end-sized count =
    record {
      no_shorter = omega (arith, u32-length count);
      no_longer = omega (arith, u32-length count);
    }
