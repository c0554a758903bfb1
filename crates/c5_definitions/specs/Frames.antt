-- The payload of a frame, with the kind of the first test that it fails by itself.
use Rattle.std.specs.Prelude.{ℕ, zero, suc, ◌==◌, nat_lt, List, [], ◌∷◌, length, take, drop}
use Rattle.std.specs.Prelude.{slice_get, Some, None, Result, Ok, Err, if◌then◌else◌}
use Rattle.c5_rows.specs.Bytes.{checked_bytes, is_key_byte, is_text_byte}
use Rattle.c5_rows.specs.declared.cells.CellType.{CellType}
use Rattle.c5_rows.specs.declared.cells.CellType.TheVariants as types
use Rattle.c5_rows.specs.declared.cells.Cell.{Cell}
use Rattle.c5_rows.specs.declared.cells.Cell.TheVariants.{Int, Txt}
use Rattle.c5_rows.specs.declared.tables.TableDef.{TableDef}
use Rattle.c5_rows.specs.declared.writes.Change.{Change}
use Rattle.c5_rows.specs.declared.writes.Change.TheVariants.{Put, Gone}
use Rattle.c5_rows.specs.declared.writes.Write.{Write}
use Rattle.c5_rows.specs.Sizes.{max_key_bytes, max_text_bytes}
use Rattle.c5_definitions.specs.declared.fault.LogKind.{LogKind}
use Rattle.c5_definitions.specs.declared.fault.LogKind.TheVariants as kinds
use Rattle.c5_definitions.specs.Numbers.{number_32, number_64, signed_64}
use Rattle.c5_definitions.specs.Steps.{◌>>=◌, or_cause}

-- the numbers of a commit mark
pub record Mark : Type 0 where
  pub script : ℕ
  pub stamp : ℕ
  pub count : ℕ

-- what a payload holds: a write, a commit mark, or the end mark with its number
pub data Frame : Type 0 where
  write : Write → Frame
  mark : Mark → Frame
  end : ℕ → Frame

-- a byte of length, and so many bytes, which are a key
unfoldable pub key_at : List ℕ → Result (List ℕ × List ℕ) LogKind
key_at [] = Err kinds.Key
key_at (n ∷ rest) = if nat_lt (length rest) n then Err kinds.Key
    else (or_cause kinds.Key (checked_bytes 1 max_key_bytes is_key_byte (take n rest))
    >>= λ key. Ok (key, drop n rest))

-- a byte of length, and so many bytes, which are a text
unfoldable pub text_at : List ℕ → Result (Cell × List ℕ) LogKind
text_at [] = Err kinds.Cell
text_at (n ∷ rest) = if nat_lt (length rest) n then Err kinds.Cell
    else (or_cause kinds.Cell (checked_bytes 0 max_text_bytes is_text_byte (take n rest))
    >>= λ text. Ok (Txt text, drop n rest))

-- 8 bytes
unfoldable pub int_at : List ℕ → Result (Cell × List ℕ) LogKind
int_at bytes = if nat_lt (length bytes) 8 then Err kinds.Cell
    else Ok (Int (signed_64 bytes), drop 8 bytes)

-- a cell of a column of this type
unfoldable pub cell_at : CellType → List ℕ → Result (Cell × List ℕ) LogKind
cell_at types.Int bytes = int_at bytes
cell_at types.Text bytes = text_at bytes

-- a cell for each column
unfoldable pub cells_at : List CellType → List ℕ → Result (List Cell × List ℕ) LogKind
cells_at [] bytes = Ok ([], bytes)
cells_at (first ∷ columns) bytes = do
  cell ← cell_at first bytes
  cells ← cells_at columns cell.1
  Ok (cell.0 ∷ cells.0, cells.1)

-- exactly the cells of the columns
unfoldable pub row_at : List CellType → List ℕ → Result (List Cell) LogKind
row_at columns bytes = do
  cells ← cells_at columns bytes
  if length cells.1 == 0 then Ok cells.0 else Err kinds.Cell

-- `00` and the cells, or `01` alone
unfoldable pub change_at : List CellType → List ℕ → Result Change LogKind
change_at columns [] = Err kinds.Cell
change_at columns (zero ∷ rest) = row_at columns rest >>= λ row. Ok (Put row)
change_at columns (suc zero ∷ []) = Ok Gone
change_at columns (suc zero ∷ byte ∷ rest) = Err kinds.Cell
change_at columns (suc (suc op) ∷ rest) = Err kinds.Cell

-- the table of this number
unfoldable pub table_numbered : ℕ → List TableDef → Result TableDef LogKind
table_numbered number tables = elim
    (slice_get tables number) [ None ↦ Err kinds.Table | Some table ↦ Ok table ]

-- what follows the byte `W`: the number of the table, the key, the change
unfoldable pub write_at : List TableDef → List ℕ → Result Write LogKind
write_at tables [] = Err kinds.Table
write_at tables (number ∷ rest) = do
  table ← table_numbered number tables
  key ← key_at rest
  change ← change_at table.columns key.1
  Ok (record { name = record { table = number; key = key.0 }; change = change })

-- what follows the byte `C`: the script number, the stamp, the number of writes
unfoldable pub mark_at : List ℕ → Result Mark LogKind
mark_at bytes = if length bytes == 16
    then Ok (record {
      script = number_32 bytes;
      stamp = number_64 (drop 4 bytes);
      count = number_32 (drop 12 bytes);
    }) else Err kinds.Length

-- what follows the byte `E`: the number of transactions
unfoldable pub end_at : List ℕ → Result ℕ LogKind
end_at bytes = if length bytes == 4 then Ok (number_32 bytes) else Err kinds.Length

-- a payload: its first byte says what it is
unfoldable pub frame_at : List TableDef → List ℕ → Result Frame LogKind
frame_at tables [] = Err kinds.Kind
frame_at tables (first ∷ rest) =
    if first == 87 then (write_at tables rest >>= λ found. Ok (write found))
    else (if first == 67 then (mark_at rest >>= λ found. Ok (mark found))
    else (if first == 69 then (end_at rest >>= λ count. Ok (end count))
    else Err kinds.Kind))
