-- The rows that the last writes of a log leave.
use Rattle.std.specs.Prelude.{◌≤◌, ◌-◌, List, [], ◌∷◌, length, slice_get, Option, Some, None}
use Rattle.std.specs.List.{flat_map}
use Rattle.c5_rows.specs.declared.rows.RowEntry.{RowEntry}
use Rattle.c5_rows.specs.declared.writes.Change.{Change}
use Rattle.c5_rows.specs.declared.writes.Change.TheVariants.{Put, Gone}
use Rattle.c5_rows.specs.declared.writes.RowName.{RowName}
use Rattle.c5_rows.specs.declared.writes.Write.{Write}
use Rattle.c5_plan.specs.declared.written.WrittenRow.{WrittenRow}

-- the entry that a change leaves, if it leaves one
abbrev pub entry_left : RowName → Change → List RowEntry
entry_left name (Put row) = record { name = name; row = row } ∷ []
entry_left name Gone = []

-- the entry that a write leaves, if there is the write and it leaves one
abbrev pub entry_left_by : RowName → Option Write → List RowEntry
entry_left_by name None = []
entry_left_by name (Some write) = entry_left name write.change

-- the entry of a row that was written last by the write of this number
abbrev pub entry_of_written : List Write → WrittenRow → List RowEntry
entry_of_written writes row = entry_left_by row.name (slice_get writes (row.last - 1))

-- the entries that are left
abbrev pub entries_left : List Write → List WrittenRow → List RowEntry
entries_left writes rows = flat_map (entry_of_written writes) rows

-- the row's number is that of a write
pub record HasWrite (writes : List Write) (row : WrittenRow) : Type 0 where
  pub some : 1 ≤ row.last
  pub within : row.last ≤ length writes
