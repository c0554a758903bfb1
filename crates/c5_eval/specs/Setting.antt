-- The rows that changes make.
use Rattle.std.specs.Prelude.{Bool, true, false, List, map, Option, Some, None}
use Rattle.std.specs.FinMap.{from_entries}
use Rattle.c5_rows.specs.declared.cells.Cell.{Cell}
use Rattle.c5_rows.specs.declared.writes.RowName.{RowName}
use Rattle.c5_rows.specs.declared.writes.Change.{Change}
use Rattle.c5_rows.specs.declared.writes.Change.TheVariants.{Put, Gone}
use Rattle.c5_rows.specs.declared.writes.Write.{Write}
use Rattle.c5_rows.specs.Order.{row_name_cmp}
use Rattle.c5_definitions.specs.declared.script.Statement.{Statement}
use Rattle.c5_definitions.specs.declared.script.Statement.TheVariants as statements
use Rattle.c5_definitions.specs.Follows.{Own}

-- the row that a change makes
abbrev pub row_made : Change → Option (List Cell)
row_made (Put row) = Some row
row_made Gone = None

-- each name with the row that its change makes
abbrev pub rows_made : List (RowName × Change) → List (RowName × Option (List Cell))
rows_made changes = map (λ pair. (pair.0, row_made pair.1)) changes

-- the rows that the changes set
abbrev pub set_by : List (RowName × Change) → Own
set_by changes = from_entries {R = row_name_cmp} (rows_made changes)

-- the changes of writes
abbrev pub pairs_of : List Write → List (RowName × Change)
pairs_of writes = map (λ write. (write.name, write.change)) writes

-- any statement but a need may set a row
abbrev pub may_set : Statement → Bool
may_set (statements.Need name col rel n) = false
may_set (statements.Put name row) = true
may_set (statements.Del name) = true
may_set (statements.Add name col n) = true
may_set (statements.Copy from to) = true
