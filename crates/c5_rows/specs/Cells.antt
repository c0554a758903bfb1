-- Cells and rows.
use Rattle.std.specs.Coded.{Coded, code_by, coded⊎, coded_ℤ, coded_list, coded_ℕ}
use Rattle.std.proofs.Common.{inl, inr, refl}
use Rattle.std.specs.Prelude.{ℕ, ℤ, ◌≡◌, ◌⊎◌, ◌&&◌, List, length, nat_le, Option, Some, None}
use Rattle.std.specs.Prelude.{if◌then◌else◌}
use Rattle.c5_rows.specs.Sizes.{max_columns}
use Rattle.c5_rows.specs.declared.cells.CellType.{CellType}
use Rattle.c5_rows.specs.declared.cells.CellType.TheVariants as types
use Rattle.c5_rows.specs.declared.cells.Cell.{Cell}
use Rattle.c5_rows.specs.declared.cells.Cell.TheVariants.{Int, Txt}

-- the type of a cell
abbrev pub type_of : Cell → CellType
type_of (Int n) = types.Int
type_of (Txt bytes) = types.Text

-- a list with as many items as a row may have cells, or nothing
abbrev pub row_or_none : {X : Type 0} → List X → Option (List X)
row_or_none items = if nat_le 1 (length items) && nat_le (length items) max_columns then Some items
    else None

-- ---- how proofs distinguish cells

abbrev pub cell_parts : Cell → ℤ ⊎ List ℕ
cell_parts (Int n) = inl n
cell_parts (Txt bytes) = inr bytes

abbrev pub cell_of_parts : ℤ ⊎ List ℕ → Cell
cell_of_parts (inl n) = Int n
cell_of_parts (inr bytes) = Txt bytes

pub cell_of_parts-cell_parts : (cell : Cell) → cell_of_parts (cell_parts cell) ≡ cell
cell_of_parts-cell_parts (Int n) = refl
cell_of_parts-cell_parts (Txt bytes) = refl

abbrev pub coded_cell : Coded Cell
coded_cell = code_by (ℤ ⊎ List ℕ)
    (coded⊎ coded_ℤ (coded_list coded_ℕ)) cell_parts cell_of_parts cell_of_parts-cell_parts
