-- Rows as the values of a map hold them.
use Rattle.std.specs.Prelude.{List, map}
use Rattle.c5_rows.specs.declared.cells.Cell.{Cell}
use Rattle.c5_rows.specs.declared.writes.RowName.{RowName}

-- each name with the row that its value shows
abbrev pub rows_held : {H : Type 0} → (H → List Cell) → List (RowName × H)
    → List (RowName × List Cell)
rows_held row entries = map (λ entry. (entry.0, row entry.1)) entries
