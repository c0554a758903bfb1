use Rattle.std.proofs.Common.{◌≡◌, ◌+◌, ap, length, take, subst, Some, arith}
use Rattle.std.specs.List.{slice_get}
use Rattle.std.specs.Option.{option_map}
use Rattle.c5_frames.specs.Log.{Log}
use Rattle.c5_frames.specs.Index.{writes_of, txn_ref_of}
use Rattle.c5_frames.specs.Holding.{txns_in}
use Rattle.c5_frames.specs.declared.index.TxnRef.{TxnRef}
use Rattle.c5_frames.proofs.Held.{txns-length, entry-at, entry-is, entry-within, entry-writes}
use Rattle.c5_frames.proofs.buffer.LogBuffer.txn.Goals as goal

pub index-requires : goal.index-requires
index-requires c =
    let b = c.self.inside in
    let same : length (txns_in b.bytes.items) ≡ length c.args.self.now.txns =
    ap (λ (l : Log). length l.txns) c.self.view_is in
    omega (arith, same, txns-length b.bytes.items b.schema b.index c.self.invariant)

pub returns-clause-entry : goal.returns-clause-entry
returns-clause-entry c =
    let b = c.self.inside in
    let same : length (txns_in b.bytes.items) ≡ length c.args.self.now.txns =
    ap (λ (l : Log). length l.txns) c.self.view_is in
    subst (λ (l : Log). Some c.index.result.now
    ≡ option_map (txn_ref_of (length (writes_of (take c.args.p l.txns)) + 1))
    (slice_get l.txns c.args.p)) c.self.view_is
    (entry-at b.bytes.items b.schema b.index c.args.p c.index.result.now c.self.invariant
    (omega (arith, same)) c.index.ensures)

pub returns-clause-within : goal.returns-clause-within
returns-clause-within c = entry-within c.args.self.now.txns c.args.p c.index.result.now
    (returns-clause-entry c)

pub returns-clause-writes : goal.returns-clause-writes
returns-clause-writes c = entry-writes c.args.self.now.txns c.args.p c.index.result.now
    (returns-clause-entry c)

pub returns-clause-some : goal.returns-clause-some
returns-clause-some c =
    let before = length (writes_of (take c.args.p c.args.self.now.txns)) in
    let found = entry-is (before + 1) c.index.result.now (slice_get c.args.self.now.txns c.args.p)
    (returns-clause-entry c) in
    let first : c.index.result.now.first ≡ before + 1 = ap (λ (e : TxnRef). e.first) found.2 in
    omega (arith, first)
