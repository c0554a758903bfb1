use Rattle.std.proofs.Common.{◌≤◌, length, subst, arith}
use Rattle.std.specs.List.{All}
use Rattle.std.proofs.lemmas.List.{take_all}
use Rattle.std.proofs.lemmas.List.Elements.{All-more, recursion_from_All}
use Rattle.c5_definitions.specs.Lawful.{IsLawfulTable}
use Rattle.c5_script.proofs.script.know_tables.Goals as goal

pub loop-table-preserved : goal.loop-table-preserved
loop-table-preserved c =
    let tables = c.args.tables.now in
    let i = c.loop-table.table-index in
    let table = c.table-item.result in
    All-more IsLawfulTable tables i table c.loop-table-test.true c.loop-table.invariant
    (subst IsLawfulTable c.table-item.is c.know_table.ensures)

pub returns : goal.returns
returns c =
    let tables = c.args.tables.now in
    let i = c.loop-table.table-index in
    let past : length tables ≤ i = omega arith in
    recursion_from_All IsLawfulTable tables
    (subst (All IsLawfulTable) (take_all i tables past) c.loop-table.invariant)
