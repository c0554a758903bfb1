use Rattle.std.proofs.Common.{take}
use Rattle.std.specs.List.{All}
use Rattle.c5_definitions.specs.Lawful.{IsLawfulCell}
use Rattle.c5_script.proofs.bodies.know_cells.Given as goal

-- the cells so far are lawful
abbrev pub invariant-loop-cell : goal.invariant-loop-cell
invariant-loop-cell l = All IsLawfulCell (take l.cell-index l.cells)
