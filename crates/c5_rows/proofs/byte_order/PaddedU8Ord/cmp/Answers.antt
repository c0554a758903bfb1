use Rattle.c5_rows.proofs.ByteOrder.{by_arrays}
use Rattle.c5_rows.proofs.byte_order.PaddedU8Ord.cmp.Goals as goal

pub returns : goal.returns
returns g c =
    let a = c.self in
    let b = c.other in
    let over =
    by_arrays g.row.N a.inside.len b.inside.len a.inside.items b.inside.items a.invariant.full
    b.invariant.full a.invariant.fits b.invariant.fits a.invariant.padding b.invariant.padding
    in
    rw (c.order.ensures, ← a.view_is, ← b.view_is) over
