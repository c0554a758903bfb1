use Rattle.std.proofs.Common.{take}
use Rattle.std.specs.List.{All}
use Rattle.c5_definitions.specs.Lawful.{IsLawfulTable}
use Rattle.c5_script.proofs.script.know_tables.Given as goal

-- the tables so far are lawful
abbrev pub invariant-loop-table : goal.invariant-loop-table
invariant-loop-table l = All IsLawfulTable (take l.table-index l.tables)
