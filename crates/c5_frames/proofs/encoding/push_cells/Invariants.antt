use Rattle.std.proofs.Common.{◌≡◌, ◌++◌, drop}
use Rattle.std.specs.List.{flat_map}
use Rattle.c5_definitions.specs.Spelling.{spelled_cell}
use Rattle.c5_frames.proofs.encoding.push_cells.Given as goal

-- what is written and the cells that are left make the whole
abbrev pub invariant-loop-cell : goal.invariant-loop-cell
invariant-loop-cell l = l.out.items ++ flat_map spelled_cell (drop l.cell-index l.cells)
    ≡ l.initial.out.items ++ flat_map spelled_cell l.cells
