use Rattle.std.proofs.Common.{◌≡◌, ◌∙◌, ap, sym, Ok, Err}
use Rattle.c5_definitions.specs.Items.{frame_length, frame_payload}
use Rattle.c5_frames.specs.DecoderStates.{tables_of, tables_after}
use Rattle.c5_frames.proofs.Tracking.{item_at}
use Rattle.c5_frames.proofs.ReadyPlain.{ready-length, fault-length}
use Rattle.c5_frames.proofs.steps.take_length.Goals as goal

pub returns-in-Ok-clause-ready : goal.returns-in-Ok-clause-ready
returns-in-Ok-clause-ready c =
    let p = c.args.p.now in
    let read : tables_after frame_length (tables_of p.schema) (item_at c.args.bytes.now p.at 4)
    ≡ Ok (tables_of p.schema, frame_payload c.in-Ok.size) =
    ap (tables_after frame_length (tables_of p.schema))
    (sym c.payload_in-item.ensures) ∙ c.in-Ok.ensures (tables_of p.schema) in
    ready-length c.args.bytes.now p c.in-Ok.size c.requires.ready c.requires.stage c.requires.whole
    read

pub returns-in-Err-clause-fault : goal.returns-in-Err-clause-fault
returns-in-Err-clause-fault c =
    let p = c.args.p.now in
    let read : tables_after frame_length (tables_of p.schema) (item_at c.args.bytes.now p.at 4)
    ≡ Err c.in-Err.kind =
    ap (tables_after frame_length (tables_of p.schema))
    (sym c.payload_in-item.ensures) ∙ c.in-Err.ensures (tables_of p.schema) in
    fault-length c.args.bytes.now p c.in-Err.kind c.requires.ready c.requires.stage c.requires.whole
    read
