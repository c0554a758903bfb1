use Rattle.std.proofs.Common.{◌≡◌, ◌∙◌, ap, sym, Ok, Err, arith}
use Rattle.c5_frames.specs.Stages.{item_of}
use Rattle.c5_frames.specs.DecoderStates.{tables_of, tables_after}
use Rattle.c5_frames.proofs.Tracking.{item_at}
use Rattle.c5_frames.proofs.ReadyPlain.{ready-plain, fault-plain, some-bytes}
use Rattle.c5_frames.proofs.steps.take_plain.Goals as goal

pub returns-in-Ok-clause-ready : goal.returns-in-Ok-clause-ready
returns-in-Ok-clause-ready c =
    let p = c.args.p.now in
    let read : tables_after (item_of p.stage) (tables_of p.schema)
    (item_at c.args.bytes.now p.at c.size_of_item-size.result)
    ≡ Ok (tables_of c.after_plain.new.schema, item_of c.in-Ok.next) =
    ap (tables_after (item_of p.stage) (tables_of p.schema))
    (sym c.payload_in-item.ensures) ∙ c.in-Ok.ensures in
    ready-plain c.args.bytes.now p c.after_plain.new.schema c.in-Ok.next c.size_of_item-size.result
    c.requires.ready c.requires.plain c.requires.whole c.size_of_item-size.ensures read

pub returns-in-Ok-clause-further : goal.returns-in-Ok-clause-further
returns-in-Ok-clause-further c =
    omega (
      arith,
      some-bytes c.args.bytes.now c.args.p.now c.requires.ready,
      c.size_of_item-size.ensures,
    )

pub returns-in-Err-clause-fault : goal.returns-in-Err-clause-fault
returns-in-Err-clause-fault c =
    let p = c.args.p.now in
    let read : tables_after (item_of p.stage) (tables_of p.schema)
    (item_at c.args.bytes.now p.at c.size_of_item-size.result) ≡ Err c.in-Err.kind =
    ap (tables_after (item_of p.stage) (tables_of p.schema))
    (sym c.payload_in-item.ensures) ∙ c.in-Err.ensures in
    fault-plain c.args.bytes.now p c.size_of_item-size.result c.in-Err.kind c.requires.ready
    c.requires.plain c.requires.whole c.size_of_item-size.ensures read
