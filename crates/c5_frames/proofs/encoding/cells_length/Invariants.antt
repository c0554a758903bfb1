use Rattle.std.proofs.Common.{◌≡◌, ◌≤◌, ◌+◌, ◌*◌, drop, length}
use Rattle.std.specs.List.{flat_map}
use Rattle.c5_definitions.specs.Spelling.{spelled_cell}
use Rattle.c5_frames.proofs.encoding.cells_length.Given as goal

-- the number so far and that of the cells that are left make the whole, and each cell has at most
-- 33 bytes
abbrev pub invariant-loop-cell : goal.invariant-loop-cell
invariant-loop-cell l =
    (l.sum + length (flat_map spelled_cell (drop l.cell-index l.cells))
    ≡ length (flat_map spelled_cell l.cells))
    × (l.sum ≤ 33 * l.cell-index)
