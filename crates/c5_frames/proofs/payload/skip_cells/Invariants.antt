use Rattle.std.proofs.Common.{◌≡◌, drop}
use Rattle.c5_definitions.specs.Frames.{cells_at}
use Rattle.c5_frames.specs.Payloads.{unread}
use Rattle.c5_frames.proofs.payload.skip_cells.Given as goal

-- the cells that are left end where all cells end
abbrev pub invariant-loop-cell_type : goal.invariant-loop-cell_type
invariant-loop-cell_type l = unread (cells_at (drop l.cell_type-index l.columns) l.rest)
    ≡ unread (cells_at l.columns l.bytes)
