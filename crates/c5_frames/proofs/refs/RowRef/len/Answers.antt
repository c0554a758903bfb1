use Rattle.std.proofs.Common.{arith, ap, length}
use Rattle.c5_frames.proofs.RefLemmas.{row-size}
use Rattle.c5_frames.proofs.refs.RowRef.len.Goals as goal

pub returns-clause-value : goal.returns-clause-value
returns-clause-value c = row-size _ _ _ _ c.self.invariant c.types.ensures.value c.self.view_is

pub returns-clause-some : goal.returns-clause-some
returns-clause-some c =
    let size = row-size _ _ _ _ c.self.invariant c.types.ensures.value c.self.view_is in
    omega (arith, size, ap length c.types.ensures.value, c.types.ensures.some)

pub returns-clause-few : goal.returns-clause-few
returns-clause-few c =
    let size = row-size _ _ _ _ c.self.invariant c.types.ensures.value c.self.view_is in
    omega (arith, size, ap length c.types.ensures.value, c.types.ensures.few)
