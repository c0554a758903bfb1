use Rattle.std.proofs.Common.{◌≡◌, length, take, drop}
use Rattle.c5_text.specs.Reading.{printed_cells_at}
use Rattle.c5_text.proofs.Loops.{with_cells}
use Rattle.c5_text.proofs.reading.row_in.Given as goal

-- the cells so far and those that are still read are those of the columns
abbrev pub invariant-loop-column : goal.invariant-loop-column
invariant-loop-column l = (length l.cells ≡ 8)
    × (with_cells (take l.column l.cells) (printed_cells_at (drop l.column l.columns) l.rest)
    ≡ printed_cells_at l.columns l.bytes)
