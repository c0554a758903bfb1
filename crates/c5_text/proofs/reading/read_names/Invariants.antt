use Rattle.std.proofs.Common.{◌≡◌, ◌<◌, ℕ, Some}
use Rattle.std.specs.Prelude.{slice_get}
use Rattle.c5_rows.specs.Bytes.{IsTableName}
use Rattle.c5_rows.specs.declared.tables.TableDef.{TableDef}
use Rattle.c5_text.proofs.reading.read_names.Given as goal

-- the tables so far have names
abbrev pub invariant-loop-table : goal.invariant-loop-table
invariant-loop-table l = (number : ℕ) (table : TableDef) → number < l.table-index
    → slice_get l.tables number ≡ Some table → IsTableName table.name
