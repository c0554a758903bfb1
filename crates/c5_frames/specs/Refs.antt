-- Borrowed rows and writes.
use Rattle.std.specs.Prelude.{◌≡◌, ℕ, zero, suc, List, [], ◌∷◌, Option, Some, None, Result, Ok}
use Rattle.std.specs.Result.{result_unwrap_or}
use Rattle.c5_rows.specs.Bytes.{IsKey}
use Rattle.c5_rows.specs.declared.cells.CellType.{CellType}
use Rattle.c5_rows.specs.declared.cells.Cell.{Cell}
use Rattle.c5_rows.specs.declared.cells.Cell.TheVariants.{Int, Txt}
use Rattle.c5_rows.specs.declared.writes.Change.{Change}
use Rattle.c5_rows.specs.declared.writes.Change.TheVariants.{Put, Gone}
use Rattle.c5_definitions.specs.declared.fault.LogKind.{LogKind}
use Rattle.c5_definitions.specs.Frames.{row_at, change_at}

-- reading fails no test
abbrev pub Reads : {X : Type 0} → Result X LogKind → Type 0
Reads {X} read = (x : X) × (read ≡ Ok x)

-- the cells that bytes hold
abbrev pub cells_held : List CellType → List ℕ → List Cell
cells_held columns bytes = result_unwrap_or (row_at columns bytes) []

-- the bytes are the cells of a row
abbrev pub HoldRow : List CellType → List ℕ → Type 0
HoldRow columns bytes = row_at columns bytes ≡ Ok (cells_held columns bytes)

-- the change that bytes hold
abbrev pub change_held : List CellType → List ℕ → Change
change_held columns bytes = result_unwrap_or (change_at columns bytes) Gone

-- the bytes of a key, and the bytes of a change
pub record HoldWrite (key : List ℕ) (columns : List CellType) (bytes : List ℕ) : Type 0 where
  pub is_key : IsKey key
  pub is_change : change_at columns bytes ≡ Ok (change_held columns bytes)

-- the row of a put
abbrev pub row_of_change : Change → Option (List Cell)
row_of_change (Put row) = Some row
row_of_change Gone = None

-- the bytes of a put's cells
abbrev pub put_cells_of : List ℕ → Option (List ℕ)
put_cells_of [] = None
put_cells_of (zero ∷ rest) = Some rest
put_cells_of (suc op ∷ rest) = None

-- the bytes of a text
abbrev pub text_bytes_of : Cell → Option (List ℕ)
text_bytes_of (Txt bytes) = Some bytes
text_bytes_of (Int n) = None
