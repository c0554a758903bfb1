-- Rows that a read block asks for.
use Rattle.std.specs.Prelude.{List, [], ◌∷◌, Option, Some, None}
use Rattle.std.specs.FinMap.{get, insert, remove}
use Rattle.c5_rows.specs.declared.cells.Cell.{Cell}
use Rattle.c5_rows.specs.declared.writes.RowName.{RowName}
use Rattle.c5_rows.specs.State.{State}

-- the rows with this one, or without it
abbrev pub with_row : RowName → Option (List Cell) → State → State
with_row name (Some row) rows = insert rows name row
with_row name None rows = remove rows name

-- the rows after each of these names was given the row that the state has
abbrev pub with_rows : State → List RowName → State → State
with_rows state [] rows = rows
with_rows state (name ∷ names) rows = with_rows state names (with_row name (get state name) rows)
