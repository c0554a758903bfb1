use Rattle.std.proofs.Common.{◌≡◌, ap, length, arith}
use Rattle.c5_frames.specs.Log.{Log}
use Rattle.c5_frames.specs.Index.{writes_of}
use Rattle.c5_frames.specs.Holding.{txns_in}
use Rattle.c5_frames.proofs.Held.{writes-length}
use Rattle.c5_frames.proofs.buffer.LogBuffer.writes.Goals as goal

pub returns-clause-value : goal.returns-clause-value
returns-clause-value c =
    let b = c.self.inside in
    let same : length (writes_of (txns_in b.bytes.items))
    ≡ length (writes_of c.args.self.now.txns) =
    ap (λ (l : Log). length (writes_of l.txns)) c.self.view_is in
    omega (arith, same, writes-length b.bytes.items b.schema b.index c.self.invariant)

pub returns-clause-few : goal.returns-clause-few
returns-clause-few c =
    let b = c.self.inside in
    let same : length (writes_of (txns_in b.bytes.items))
    ≡ length (writes_of c.args.self.now.txns) =
    ap (λ (l : Log). length (writes_of l.txns)) c.self.view_is in
    let held = c.self.invariant in
    let places = held.few_places in
    let small = held.small in
    omega (arith, same, writes-length b.bytes.items b.schema b.index held, places, small)
