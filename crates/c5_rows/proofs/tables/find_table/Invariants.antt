use Rattle.std.proofs.Common.{◌≡◌, drop}
use Rattle.c5_rows.specs.Tables.{table_number_from, table_number}
use Rattle.c5_rows.proofs.tables.find_table.Given as goal

-- no table up to here has the name
abbrev pub invariant-loop-number : goal.invariant-loop-number
invariant-loop-number l = table_number_from l.number l.name (drop l.number l.tables)
    ≡ table_number l.name l.tables
