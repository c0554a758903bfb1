use Rattle.std.proofs.Common.{◌≡◌, ap, length, arith}
use Rattle.c5_frames.specs.Log.{Log}
use Rattle.c5_frames.specs.Holding.{txns_in}
use Rattle.c5_frames.proofs.Held.{txns-length}
use Rattle.c5_frames.proofs.buffer.LogBuffer.transactions.Goals as goal

pub returns : goal.returns
returns c =
    let b = c.self.inside in
    let same : length (txns_in b.bytes.items) ≡ length c.args.self.now.txns =
    ap (λ (l : Log). length l.txns) c.self.view_is in
    omega (arith, same, txns-length b.bytes.items b.schema b.index c.self.invariant)
