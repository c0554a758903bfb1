use Rattle.std.proofs.Common.{◌≡◌, ◌∙◌, ap, sym, List, Err}
use Rattle.c5_rows.specs.declared.tables.TableDef.{TableDef}
use Rattle.c5_frames.specs.Payloads.{shown_at}
use Rattle.c5_frames.specs.DecoderStates.{tables_of}
use Rattle.c5_frames.proofs.Tracking.{item_at}
use Rattle.c5_frames.proofs.Ready.{Takes, fault-payload}
use Rattle.c5_frames.proofs.frames.take_payload.Goals as goal

pub returns-in-Err-clause-fault : goal.returns-in-Err-clause-fault
returns-in-Err-clause-fault c =
    let h : Takes c.args.bytes.now c.args.p.now c.args.size =
    record { ready = c.requires.ready; stage = c.requires.stage; whole = c.requires.whole } in
    let shown : shown_at (tables_of c.args.p.now.schema)
    (item_at c.args.bytes.now c.args.p.now.at c.args.size) ≡ Err c.in-Err.kind =
    ap (λ (tables : List TableDef). shown_at tables
    (item_at c.args.bytes.now c.args.p.now.at c.args.size)) (sym c.tables_in.ensures)
    ∙ ap (shown_at c.tables_in.result.now) (sym c.payload_in-payload.ensures) ∙ c.in-Err.ensures in
    fault-payload c.args.bytes.now c.args.p.now c.args.size c.in-Err.kind h shown
