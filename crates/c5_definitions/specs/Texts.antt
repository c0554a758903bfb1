-- The texts of rows.
use Rattle.std.specs.Prelude.{ℕ, List, [], ◌∷◌, ◌++◌, length, codes, decimal, slice_get, Option}
use Rattle.std.specs.Prelude.{Some, None}
use Rattle.std.specs.Fmt.{signed_decimal}
use Rattle.std.specs.List.{flat_map}
use Rattle.c5_rows.specs.declared.cells.Cell.{Cell}
use Rattle.c5_rows.specs.declared.cells.Cell.TheVariants.{Int, Txt}
use Rattle.c5_rows.specs.declared.tables.TableDef.{TableDef}
use Rattle.c5_rows.specs.declared.rows.RowEntry.{RowEntry}
use Rattle.c5_rows.specs.declared.writes.RowName.{RowName}
use Rattle.c5_rows.specs.State.{State, rows_of}
use Rattle.c5_definitions.specs.FitsState.{IsRowIn}

-- a number with `-` if it is negative; or a text between two quotes
abbrev pub cell_text : Cell → List ℕ
cell_text (Int n) = signed_decimal n
cell_text (Txt bytes) = 34 ∷ bytes ++ 34 ∷ []

-- the name of a table; no bytes if there is no such table
abbrev pub table_name_text : Option TableDef → List ℕ
table_name_text (Some table) = table.name
table_name_text None = []

-- the table's name, a blank and the key
abbrev pub name_text : List TableDef → RowName → List ℕ
name_text tables name = table_name_text (slice_get tables name.table) ++ 32 ∷ name.key

-- the table's name, the key and the cells, with a blank before each but the first
abbrev pub line_text : List TableDef → RowEntry → List ℕ
line_text tables entry = name_text tables entry.name
    ++ flat_map (λ cell. 32 ∷ cell_text cell) entry.row

-- the same with a line end
abbrev pub row_line : List TableDef → RowEntry → List ℕ
row_line tables entry = line_text tables entry ++ 10 ∷ []

-- the row has a line: it is one of these tables
abbrev pub IsRowOf : List TableDef → RowEntry → Type 0
IsRowOf tables entry = IsRowIn tables entry.name entry.row

-- `rows` and how many there are
abbrev pub count_line : ℕ → List ℕ
count_line n = codes "rows " ++ decimal n ++ 10 ∷ []

-- a line for each row, and the line of their number
abbrev pub entries_text : List TableDef → List RowEntry → List ℕ
entries_text tables entries = flat_map (row_line tables) entries ++ count_line (length entries)

-- all rows of a state, by ascending name, and their number
abbrev pub rows_text : List TableDef → State → List ℕ
rows_text tables state = entries_text tables (rows_of state)
