use Rattle.std.proofs.Common.{◌≡◌, ◌≤◌, [], take, drop, Ok}
use Rattle.c5_definitions.specs.Frames.{cells_at}
use Rattle.c5_frames.specs.Refs.{cells_held}
use Rattle.c5_frames.proofs.cells.row_in.Given as goal

-- the row has the cells so far, and what is left are the others
abbrev pub invariant-loop-column : goal.invariant-loop-column
invariant-loop-column l = record {
  some : 1 ≤ l.column;
  left : cells_at (drop l.column l.columns) l.rest
      ≡ Ok (drop l.column (cells_held l.columns l.bytes), []);
  built : l.row ≡ take l.column (cells_held l.columns l.bytes);
}
