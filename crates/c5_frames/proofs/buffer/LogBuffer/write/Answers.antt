use Rattle.std.proofs.Common.{◌≡◌, ◌∙◌, ◌-◌, ap, length, Some, Ok, List, ℕ, sym, arith}
use Rattle.std.specs.List.{slice_get}
use Rattle.c5_rows.specs.declared.tables.TableDef.{TableDef}
use Rattle.c5_rows.specs.declared.writes.Write.{Write}
use Rattle.c5_definitions.specs.Frames.{frame_at, write}
use Rattle.c5_frames.specs.Log.{Log}
use Rattle.c5_frames.specs.Index.{writes_of, payload_at}
use Rattle.c5_frames.specs.Holding.{txns_in}
use Rattle.c5_frames.proofs.Held.{writes-length, write-at, same-at}
use Rattle.c5_frames.proofs.buffer.LogBuffer.write.Goals as goal

pub index-requires : goal.index-requires
index-requires c =
    let b = c.self.inside in
    let same : length (writes_of (txns_in b.bytes.items))
    ≡ length (writes_of c.args.self.now.txns) =
    ap (λ (l : Log). length (writes_of l.txns)) c.self.view_is in
    omega (arith, same, writes-length b.bytes.items b.schema b.index c.self.invariant)

pub payload_in-requires : goal.payload_in-requires
payload_in-requires c =
    let b = c.self.inside in
    let same : length (writes_of (txns_in b.bytes.items))
    ≡ length (writes_of c.args.self.now.txns) =
    ap (λ (l : Log). length (writes_of l.txns)) c.self.view_is in
    let at = write-at b.bytes.items b.schema b.index c.args.w c.index.result.now c.self.invariant
    c.requires.some (omega (arith, same)) c.index.ensures in
    let within = at.2.within in
    let len : length c.deref.result.now ≡ length b.bytes.items = ap length c.deref.ensures.value in
    omega (arith, within, len)

pub write_ref-requires : goal.write_ref-requires
write_ref-requires c =
    let b = c.self.inside in
    let same : length (writes_of (txns_in b.bytes.items))
    ≡ length (writes_of c.args.self.now.txns) =
    ap (λ (l : Log). length (writes_of l.txns)) c.self.view_is in
    let at = write-at b.bytes.items b.schema b.index c.args.w c.index.result.now c.self.invariant
    c.requires.some (omega (arith, same)) c.index.ensures in (
      at.0,
      ap (λ (tables : List TableDef). frame_at tables c.payload_in.result.now)
          c.tables.ensures.value
          ∙ ap (frame_at b.schema)
          (c.payload_in.ensures ∙ ap
          (λ (bytes : List ℕ). payload_at bytes c.index.result.now) c.deref.ensures.value)
          ∙ at.2.read,
    )

pub returns : goal.returns
returns c =
    let b = c.self.inside in
    let same : length (writes_of (txns_in b.bytes.items))
    ≡ length (writes_of c.args.self.now.txns) =
    ap (λ (l : Log). length (writes_of l.txns)) c.self.view_is in
    let at = write-at b.bytes.items b.schema b.index c.args.w c.index.result.now c.self.invariant
    c.requires.some (omega (arith, same)) c.index.ensures in
    let read : frame_at c.tables.result.now c.payload_in.result.now ≡ Ok (write at.0) =
    ap (λ (tables : List TableDef). frame_at tables c.payload_in.result.now)
    c.tables.ensures.value
    ∙ ap (frame_at b.schema)
    (c.payload_in.ensures ∙ ap
    (λ (bytes : List ℕ). payload_at bytes c.index.result.now) c.deref.ensures.value)
    ∙ at.2.read in
    ap (λ (l : Log). slice_get (writes_of l.txns) (c.args.w - 1)) (sym c.self.view_is)
    ∙ at.1
    ∙ ap (λ (w : Write). Some w)
    (same-at c.tables.result.now c.payload_in.result.now at.0 c.write_ref.result read
    c.write_ref.ensures)
