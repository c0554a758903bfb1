use Rattle.std.proofs.Common.{◌≡◌, [], drop, Ok}
use Rattle.c5_definitions.specs.Frames.{cells_at}
use Rattle.c5_frames.specs.Refs.{cells_held}
use Rattle.c5_frames.proofs.cells.cells_from.Given as goal

-- what is left are the cells that are left
abbrev pub invariant-loop-cell_type : goal.invariant-loop-cell_type
invariant-loop-cell_type l = cells_at (drop l.cell_type-index l.columns) l.rest
    ≡ Ok (drop l.cell_type-index (cells_held l.columns l.bytes), [])
