-- Reading a row's line from left to right.
use lib.Signed.{mag}
use Rattle.std.specs.Prelude.{◌≡◌, ℕ, ℤ, ◌^◌, ◌==◌, ◌&&◌, nat_lt, suc, List, [], ◌∷◌, length, take}
use Rattle.std.specs.Prelude.{drop, slice_get, Option, Some, None, Result, Ok, Err, if◌then◌else◌}
use Rattle.std.specs.Fmt.{signed_decimal}
use Rattle.std.specs.Str.{bytes_eq}
use Rattle.std.specs.Str.Parse.{signed_digits_value}
use Rattle.c5_rows.specs.declared.names.Bad.{Bad}
use Rattle.c5_rows.specs.declared.cells.CellType.{CellType}
use Rattle.c5_rows.specs.declared.cells.CellType.TheVariants as types
use Rattle.c5_rows.specs.declared.cells.Cell.{Cell}
use Rattle.c5_rows.specs.declared.cells.Cell.TheVariants.{Int, Txt}
use Rattle.c5_rows.specs.declared.tables.TableDef.{TableDef}
use Rattle.c5_rows.specs.declared.rows.RowEntry.{RowEntry}
use Rattle.c5_rows.specs.Bytes.{checked_bytes, is_key_byte, is_text_byte}
use Rattle.c5_rows.specs.Tables.{table_number}
use Rattle.c5_rows.specs.Sizes.{max_key_bytes, max_text_bytes}

-- one step, and then the next if it gave something
infixl 10 ◌>>=◌
abbrev pub ◌>>=◌ : {A B : Type 0} → Option A → (A → Option B) → Option B
(Some x) >>= f = f x
None >>= f = None

-- what was checked
abbrev pub or_none : {A : Type 0} → Result A Bad → Option A
or_none (Ok x) = Some x
or_none (Err bad) = None

-- what a function returned, seen by view, is what reading gives
abbrev pub GivesOption : {X Y : Type 0} → (X → Y) → Option X → Option Y → Type 0
GivesOption view (Some x) read = read ≡ Some (view x)
GivesOption view None read = read ≡ None

-- how many bytes come before the first byte `stop`, and all of them if there is none
unfoldable pub bytes_before : ℕ → List ℕ → ℕ
bytes_before stop [] = 0
bytes_before stop (byte ∷ bytes) = if byte == stop then 0 else suc (bytes_before stop bytes)

-- the bytes after this one
unfoldable pub rest_after_byte : ℕ → List ℕ → Option (List ℕ)
rest_after_byte first [] = None
rest_after_byte first (byte ∷ bytes) = if byte == first then Some bytes else None

-- the number of 64 bits with a sign that is written so
unfoldable pub printed_int_of : List ℕ → Option ℤ
printed_int_of bytes = if nat_lt (mag (signed_digits_value 10 bytes)) (2 ^ 63)
    && bytes_eq (signed_decimal (signed_digits_value 10 bytes)) bytes
    then Some (signed_digits_value 10 bytes) else None

-- a number, up to the next blank
unfoldable pub printed_int_at : List ℕ → Option (Cell × List ℕ)
printed_int_at bytes = do
  number ← printed_int_of (take (bytes_before 32 bytes) bytes)
  Some (Int number, drop (bytes_before 32 bytes) bytes)

-- a text between two quotes
unfoldable pub printed_text_at : List ℕ → Option (Cell × List ℕ)
printed_text_at quoted = do
  bytes ← rest_after_byte 34 quoted
  text ← or_none (checked_bytes 0 max_text_bytes is_text_byte (take (bytes_before 34 bytes) bytes))
  rest ← rest_after_byte 34 (drop (bytes_before 34 bytes) bytes)
  Some (Txt text, rest)

-- a blank, and a cell of a column of this type
unfoldable pub printed_cell_at : CellType → List ℕ → Option (Cell × List ℕ)
printed_cell_at types.Int bytes = rest_after_byte 32 bytes >>= printed_int_at
printed_cell_at types.Text bytes = rest_after_byte 32 bytes >>= printed_text_at

-- a cell for each column
unfoldable pub printed_cells_at : List CellType → List ℕ → Option (List Cell × List ℕ)
printed_cells_at [] bytes = Some ([], bytes)
printed_cells_at (first ∷ columns) bytes = do
  cell ← printed_cell_at first bytes
  cells ← printed_cells_at columns cell.1
  Some (cell.0 ∷ cells.0, cells.1)

-- exactly the cells of the columns
unfoldable pub printed_row_at : List CellType → List ℕ → Option (List Cell)
printed_row_at columns bytes = do
  cells ← printed_cells_at columns bytes
  if length cells.1 == 0 then Some cells.0 else None

-- what follows the name of the table of this number: a blank, the key and the cells
unfoldable pub printed_entry_at : List TableDef → ℕ → List ℕ → Option RowEntry
printed_entry_at tables number rest = do
  table ← slice_get tables number
  bytes ← rest_after_byte 32 rest
  key ← or_none (checked_bytes 1 max_key_bytes is_key_byte (take (bytes_before 32 bytes) bytes))
  row ← printed_row_at table.columns (drop (bytes_before 32 bytes) bytes)
  Some (record { name = record { table = number; key = key }; row = row })

-- a row's line
unfoldable pub printed_line_at : List TableDef → List ℕ → Option RowEntry
printed_line_at tables line = do
  number ← table_number (take (bytes_before 32 line) line) tables
  printed_entry_at tables number (drop (bytes_before 32 line) line)
