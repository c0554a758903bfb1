use Rattle.std.proofs.Common.{◌∙◌, ◌-◌, sym, ap, arith}
use Rattle.std.specs.Ordering.{is_gt}
use Rattle.c5_rows.specs.Order.{row_name_cmp}
use Rattle.c5_rows.specs.declared.writes.RowName.{RowName}
use Rattle.c5_definitions.specs.Frames.{frame_at}
use Rattle.c5_definitions.specs.Items.{is_above}
use Rattle.c5_frames.specs.Payloads.{name_of}
use Rattle.c5_frames.specs.Index.{found_in}
use Rattle.c5_frames.proofs.Indexing.{open-length}
use Rattle.c5_frames.proofs.Last.{last-write, above-none, same-name}
use Rattle.c5_frames.proofs.frames.is_above_last.Goals as goal

pub open-requires-clause-closed : goal.open-requires-clause-closed
open-requires-clause-closed c =
    let h = c.requires.index in
    omega (arith, open-length c.args.bytes.now h.0 (found_in c.args.index.now) h.1 h.2 h.3)

pub returns-then-open-eq0 : goal.returns-then-open-eq0
returns-then-open-eq0 c = λ tables txns writes h.
    above-none (name_of c.args.name) writes
    (omega (
      arith,
      open-length c.args.bytes.now tables
          (found_in c.args.index.now) txns writes h,
      c.if-open-eq0.true,
      c.open.ensures,
    ))

pub payload_in-requires : goal.payload_in-requires
payload_in-requires c =
    let h = c.requires.index in
    let last = last-write c.args.bytes.now h.0 (found_in c.args.index.now) h.1 h.2
    (c.len.result - 1) c.index.result.now h.3
    (λ none. c.if-open-eq0.false (c.open.ensures ∙ none)) (omega arith) c.index.ensures in
    last.2.within

pub name_in-requires : goal.name_in-requires
name_in-requires c =
    let h = c.requires.index in
    let last = last-write c.args.bytes.now h.0 (found_in c.args.index.now) h.1 h.2
    (c.len.result - 1) c.index.result.now h.3
    (λ none. c.if-open-eq0.false (c.open.ensures ∙ none)) (omega arith) c.index.ensures in
    (h.0, last.0, ap (frame_at h.0) c.payload_in.ensures ∙ last.2.read)

pub returns : goal.returns
returns c = λ tables txns writes h.
    let last = last-write c.args.bytes.now tables (found_in c.args.index.now) txns writes
    (c.len.result - 1) c.index.result.now h
    (λ none. c.if-open-eq0.false (c.open.ensures ∙ none)) (omega arith) c.index.ensures in
    let read = ap (frame_at tables) c.payload_in.ensures ∙ last.2.read in
    let name = same-name c.name_in.result last.0.name (c.name_in.ensures.table tables last.0 read)
    (c.name_in.ensures.key tables last.0 read) in
    c.is_above.ensures
    ∙ ap (λ (n : RowName). is_gt (row_name_cmp (name_of c.args.name) n)) name
    ∙ sym (ap (is_above (name_of c.args.name)) last.1)
