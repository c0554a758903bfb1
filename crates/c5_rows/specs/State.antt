-- The state that writes and transactions leave: a finite map from names of rows to rows.
use Rattle.std.specs.Prelude.{ℕ, List, [], ◌∷◌, map, take}
use Rattle.std.specs.FinMap.{FinMap, insert, remove, entries}
use Rattle.c5_rows.specs.declared.cells.Cell.{Cell}
use Rattle.c5_rows.specs.declared.writes.RowName.{RowName}
use Rattle.c5_rows.specs.declared.writes.Change.{Change}
use Rattle.c5_rows.specs.declared.writes.Change.TheVariants.{Put, Gone}
use Rattle.c5_rows.specs.declared.writes.Write.{Write}
use Rattle.c5_rows.specs.declared.writes.Txn.{Txn}
use Rattle.c5_rows.specs.declared.rows.RowEntry.{RowEntry}
use Rattle.c5_rows.specs.Order.{row_name_cmp}

-- rows by their names
abbrev pub State : Type 0
State = FinMap row_name_cmp (List Cell)

-- a put sets the row; a gone removes it, and on an absent row does nothing
abbrev pub after_change : RowName → Change → State → State
after_change name (Put row) state = insert state name row
after_change name Gone state = remove state name

-- one write after the other
abbrev pub after_writes : List Write → State → State
after_writes [] state = state
after_writes (write ∷ writes) state =
    after_writes writes (after_change write.name write.change state)

-- one whole transaction after the other
abbrev pub after_txns : List Txn → State → State
after_txns [] state = state
after_txns (txn ∷ txns) state = after_txns txns (after_writes txn.writes state)

-- the state after the first p transactions
abbrev pub state_after : State → List Txn → ℕ → State
state_after state txns p = after_txns (take p txns) state

-- a name and its row
abbrev pub entry_of : RowName × List Cell → RowEntry
entry_of pair = record { name = pair.0; row = pair.1 }

-- the rows with their names, ascending by name
abbrev pub rows_of : State → List RowEntry
rows_of state = map entry_of (entries state)
