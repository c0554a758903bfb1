use Rattle.std.proofs.Common.{arith}
use Rattle.c5_frames.proofs.RefLemmas.{row-size}
use Rattle.c5_frames.proofs.refs.RowRef.text.Goals as goal

pub text_in-requires-clause-column : goal.text_in-requires-clause-column
text_in-requires-clause-column c =
    let size = row-size _ _ _ _ c.self.invariant c.types.ensures.value c.self.view_is in
    omega (arith, size)
