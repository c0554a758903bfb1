use Rattle.std.proofs.Common.{◌≤◌, length, subst, arith}
use Rattle.std.specs.List.{All}
use Rattle.std.proofs.lemmas.List.{take_all}
use Rattle.std.proofs.lemmas.List.Elements.{All-more, recursion_from_All}
use Rattle.c5_definitions.specs.Lawful.{IsLawfulCell}
use Rattle.c5_script.proofs.bodies.know_cells.Goals as goal

pub loop-cell-preserved : goal.loop-cell-preserved
loop-cell-preserved c =
    let cells = c.args.cells.now in
    let i = c.loop-cell.cell-index in
    let cell = c.cell-item.result in
    All-more IsLawfulCell cells i cell c.loop-cell-test.true c.loop-cell.invariant
    (subst IsLawfulCell c.cell-item.is c.know_cell.ensures)

pub returns : goal.returns
returns c =
    let cells = c.args.cells.now in
    let i = c.loop-cell.cell-index in
    let past : length cells ≤ i = omega arith in
    recursion_from_All IsLawfulCell cells
    (subst (All IsLawfulCell) (take_all i cells past) c.loop-cell.invariant)
