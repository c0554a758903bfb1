-- How much a script may hold: transactions, statements that write, and rows.
use Rattle.std.specs.Prelude.{◌≤◌, ℕ, List, length, nat_lt, Option, Some, None, if◌then◌else◌}
use Rattle.std.specs.List.{filter_map, flat_map}
use Rattle.std.specs.Set.{distinct_count}
use Rattle.std.specs.Ordering.{eq_by_cmp}
use Rattle.c5_rows.specs.declared.writes.RowName.{RowName}
use Rattle.c5_rows.specs.Order.{row_name_cmp}
use Rattle.c5_rows.specs.Sizes.{max_transactions, max_writes, max_rows}
use Rattle.c5_definitions.specs.declared.limits.Excess.{Excess}
use Rattle.c5_definitions.specs.declared.limits.Excess.TheVariants.{Transactions, Writes, Rows}
use Rattle.c5_definitions.specs.ScriptParts.{ScriptParts}
use Rattle.c5_definitions.specs.declared.script.Statement.{Statement}
use Rattle.c5_definitions.specs.declared.script.Statement.TheVariants.{Put, Del, Need, Add, Copy}

-- the name of the row that a statement writes
abbrev pub written_name : Statement → Option RowName
written_name (Put name row) = Some name
written_name (Del name) = Some name
written_name (Need name col rel n) = None
written_name (Add name col n) = Some name
written_name (Copy from to) = Some to

-- the names of the rows that bodies write, one for each statement that writes
abbrev pub written_names : List (List Statement) → List RowName
written_names bodies = flat_map (filter_map written_name) bodies

-- the number of statements that write
abbrev pub write_statements : List (List Statement) → ℕ
write_statements bodies = length (written_names bodies)

-- the number of different rows that they write
abbrev pub written_row_count : List (List Statement) → ℕ
written_row_count bodies = distinct_count (eq_by_cmp row_name_cmp) (written_names bodies)

-- no limit is passed
pub record AreWithinLimits (bodies : List (List Statement)) : Type 0 where
  pub transactions : length bodies ≤ max_transactions
  pub writes : write_statements bodies ≤ max_writes
  pub rows : written_row_count bodies ≤ max_rows

-- the first limit that so many transactions, statements that write, and rows exceed
abbrev pub excess_in : ℕ → ℕ → ℕ → Option Excess
excess_in transactions writes rows =
    if nat_lt max_transactions transactions then Some Transactions
    else (if nat_lt max_writes writes then Some Writes
    else (if nat_lt max_rows rows then Some Rows
    else None))

-- the first limit that a script exceeds
unfoldable pub excess_of : ScriptParts → Option Excess
excess_of script =
    excess_in (length script.bodies) (write_statements script.bodies)
    (written_row_count script.bodies)
