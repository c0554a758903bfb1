use Rattle.std.proofs.Common.{arith}
use Rattle.c5_frames.proofs.RefLemmas.{row-size}
use Rattle.c5_frames.proofs.refs.RowRef.cell.Goals as goal

pub cell_in-requires-clause-column : goal.cell_in-requires-clause-column
cell_in-requires-clause-column c =
    let size = row-size _ _ _ _ c.self.invariant c.types.ensures.value c.self.view_is in
    omega (arith, size)
