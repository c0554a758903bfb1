-- The longest log that is within the limits.
use Rattle.std.proofs.Common.{◌≡◌, ◌≤◌, ◌+◌, ◌*◌, ℕ, List, [], ◌∷◌, ◌++◌, zero, suc, length, map}
use Rattle.std.proofs.Common.{refl, ap, arith}
use Rattle.std.specs.Int.{w64, cast_unsigned}
use Rattle.std.specs.Prelude.{MatchOption, slice_get}
use Rattle.std.specs.List.{AllByRecursion, flat_map}
use Rattle.std.proofs.lemmas.List.{length-append, length-map}
use Rattle.std.proofs.lemmas.List.Sums.{sum_by-cons}
use Rattle.c5_rows.specs.Cells.{type_of}
use Rattle.c5_rows.specs.Fitting.{FitsColumns}
use Rattle.c5_rows.specs.declared.cells.Cell.{Cell}
use Rattle.c5_rows.specs.declared.cells.Cell.TheVariants.{Int, Txt}
use Rattle.c5_rows.specs.declared.cells.CellType.{CellType}
use Rattle.c5_rows.specs.declared.tables.TableDef.{TableDef}
use Rattle.c5_rows.specs.declared.writes.Change.{Change}
use Rattle.c5_rows.specs.declared.writes.Change.TheVariants.{Put, Gone}
use Rattle.c5_rows.specs.declared.writes.Write.{Write}
use Rattle.c5_rows.specs.declared.writes.Txn.{Txn}
use Rattle.c5_definitions.specs.Lawful.{IsLawfulLog, IsLawfulCell, IsLawfulChange, IsLawfulTable}
use Rattle.c5_definitions.specs.Lawful.{IsLawfulTxn, IsLawfulWrite}
use Rattle.c5_definitions.specs.Spelling.{spelled_u32, spelled_u64, spelled_type, spelled_table}
use Rattle.c5_definitions.specs.Spelling.{spelled_header, spelled_cell, spelled_change}
use Rattle.c5_definitions.specs.Spelling.{spelled_frame, spelled_txn, spelled_log, write_payload}
use Rattle.c5_definitions.specs.Spelling.{mark_payload, end_payload}
use Rattle.c5_primary.specs.Serial.{total_writes}

-- ---- numbers and frames

u32-length : (n : ℕ) → length (spelled_u32 n) ≡ 4
unfolding spelled_u32
u32-length n = refl

u64-length : (n : ℕ) → length (spelled_u64 n) ≡ 8
unfolding spelled_u64
u64-length n = refl

frame-length : (payload : List ℕ) → length (spelled_frame payload) ≡ 4 + length payload
unfolding spelled_frame
frame-length payload =
    omega (arith, length-append (spelled_u32 (length payload)) payload, u32-length (length payload))

-- ---- the header

table-short : (table : TableDef) → IsLawfulTable table → length (spelled_table table) ≤ 26
table-short table lawful =
    let name = lawful.name.no_longer in
    let columns = lawful.few in
    omega (
      arith,
      length-append table.name (length table.columns ∷ map spelled_type table.columns),
      length-map table.columns spelled_type,
    )

tables-short : (tables : List TableDef) → AllByRecursion IsLawfulTable tables
    → length (flat_map spelled_table tables) ≤ 26 * length tables
tables-short [] each = omega arith
tables-short (table ∷ tables) each =
    omega (
      arith,
      length-append (spelled_table table) (flat_map spelled_table tables),
      table-short table each.0,
      tables-short tables each.1,
    )

header-short : (tables : List TableDef) → AllByRecursion IsLawfulTable tables → length tables ≤ 16
    → length (spelled_header tables) ≤ 421
unfolding spelled_header
header-short tables each few = omega (arith, tables-short tables each)

-- ---- writes

cell-short : (cell : Cell) → IsLawfulCell cell → length (spelled_cell cell) ≤ 33
unfolding spelled_cell
cell-short (Int n) fits = omega (arith, u64-length (cast_unsigned w64 n))
cell-short (Txt text) are = let le = are.no_longer in omega arith

cells-short : (row : List Cell) → AllByRecursion IsLawfulCell row
    → length (flat_map spelled_cell row) ≤ 33 * length row
cells-short [] fits = omega arith
cells-short (cell ∷ row) fits =
    omega (
      arith,
      length-append (spelled_cell cell) (flat_map spelled_cell row),
      cell-short cell fits.0,
      cells-short row fits.1,
    )

change-short : (change : Change) (columns : List CellType) → IsLawfulChange change
    → FitsColumns change columns → length columns ≤ 8 → length (spelled_change change) ≤ 265
unfolding spelled_change
change-short (Put row) columns lawful fits few =
    omega (arith, cells-short row lawful, ap length fits, length-map row type_of)
change-short Gone columns lawful fits few = omega arith

-- the change fits a table of at most eight columns
fitting-short : (tables : List TableDef) (number : ℕ) (change : Change)
    → AllByRecursion IsLawfulTable tables → IsLawfulChange change
    → MatchOption (slice_get tables number) ⊥ (λ table. FitsColumns change table.columns)
    → length (spelled_change change) ≤ 265
fitting-short [] number change each lawful fits = absurd fits
fitting-short (table ∷ tables) zero change each lawful fits =
    change-short change table.columns lawful fits each.0.few
fitting-short (table ∷ tables) (suc number) change each lawful fits =
    fitting-short tables number change each.1 lawful fits

write-short : (tables : List TableDef) (write : Write) → AllByRecursion IsLawfulTable tables
    → IsLawfulWrite tables write → length (spelled_frame (write_payload write)) ≤ 304
unfolding write_payload
write-short tables write each lawful =
    let key = lawful.key.no_longer in
    let change =
    fitting-short tables write.name.table write.change each lawful.change lawful.fits in
    omega (
      arith,
      frame-length (write_payload write),
      length-append write.name.key (spelled_change write.change),
    )

writes-short : (tables : List TableDef) (writes : List Write) → AllByRecursion IsLawfulTable tables
    → AllByRecursion (IsLawfulWrite tables) writes
    → length (flat_map (λ write. spelled_frame (write_payload write)) writes) ≤ 304 * length writes
writes-short tables [] each lawful = omega arith
writes-short tables (write ∷ writes) each lawful =
    omega (
      arith,
      length-append (spelled_frame (write_payload write))
          (flat_map (λ write. spelled_frame (write_payload write)) writes),
      write-short tables write each lawful.0,
      writes-short tables writes each lawful.1,
    )

-- ---- transactions and the end

mark-length : (txn : Txn) → length (spelled_frame (mark_payload txn)) ≡ 21
unfolding mark_payload
mark-length txn =
    let a = spelled_u32 txn.script in
    let b = spelled_u64 txn.stamp in
    let c = spelled_u32 (length txn.writes) in
    omega (
      arith,
      frame-length (mark_payload txn),
      length-append (a ++ b) c,
      length-append a b,
      u32-length txn.script,
      u64-length txn.stamp,
      u32-length (length txn.writes),
    )

end-length : (count : ℕ) → length (spelled_frame (end_payload count)) ≡ 9
unfolding end_payload
end-length count = omega (arith, frame-length (end_payload count), u32-length count)

txn-short : (tables : List TableDef) (txn : Txn) → AllByRecursion IsLawfulTable tables
    → IsLawfulTxn tables txn → length (spelled_txn txn) ≤ 304 * length txn.writes + 21
unfolding spelled_txn
txn-short tables txn each lawful =
    omega (
      arith,
      length-append (flat_map (λ write. spelled_frame (write_payload write)) txn.writes)
          (spelled_frame (mark_payload txn)),
      writes-short tables txn.writes each lawful.writes,
      mark-length txn,
    )

txns-short : (tables : List TableDef) (txns : List Txn) → AllByRecursion IsLawfulTable tables
    → AllByRecursion (IsLawfulTxn tables) txns
    → length (flat_map spelled_txn txns) ≤ 304 * total_writes txns + 21 * length txns
txns-short tables [] each lawful = omega arith
txns-short tables (txn ∷ txns) each lawful =
    let first = txn-short tables txn each lawful.0 in
    let others = txns-short tables txns each lawful.1 in
    let sum = sum_by-cons (λ (t : Txn). length t.writes) txn txns in
    omega (arith, length-append (spelled_txn txn) (flat_map spelled_txn txns))

-- a lawful log within the limits of transactions and writes has at most 81,068,462 bytes
pub log-short : (tables : List TableDef) (txns : List Txn) → IsLawfulLog tables txns
    → length txns ≤ 65536 → total_writes txns ≤ 262144 → length (spelled_log tables txns) ≤ 81068462
unfolding spelled_log
log-short tables txns lawful few some =
    let tables_few = lawful.schema.few in
    let header = header-short tables lawful.each_table tables_few in
    let body = txns-short tables txns lawful.each_table lawful.each_txn in
    let end = end-length (length txns) in
    omega (
      arith,
      length-append (spelled_header tables ++ flat_map spelled_txn txns)
          (spelled_frame (end_payload (length txns))),
      length-append (spelled_header tables) (flat_map spelled_txn txns),
    )
