use Rattle.std.proofs.Common.{◌∙◌, ap, sym, subst, ℕ, List, Err}
use Rattle.c5_definitions.specs.declared.fault.LogKind.TheVariants as kinds
use Rattle.c5_definitions.specs.Items.{log_of}
use Rattle.c5_definitions.specs.Lawful.{Spells}
use Rattle.c5_frames.specs.Log.{Log}
use Rattle.c5_frames.specs.Holding.{txns_in}
use Rattle.c5_frames.proofs.Pieces.{cut-log, never-none, holds-log}
use Rattle.c5_frames.proofs.decoder.finish_log.Goals as goal

pub returns-then-not-is_end-clause-read : goal.returns-then-not-is_end-clause-read
returns-then-not-is_end-clause-read c =
    cut-log c.args.bytes.items c.args.progress c.requires
    (sym c.is_end.ensures ∙ c.if-not-is_end.true)
    ∙ ap (λ (offset : ℕ). Err (record { offset = offset; kind = kinds.Cut }))
    (sym c.begin_of_item.ensures)

pub unreachable-requires : goal.unreachable-requires
unreachable-requires c = never-none c.args.bytes.items c.args.progress c.requires
    (sym c.is_end.ensures ∙ c.if-not-is_end.false) c.in-None.is

pub make_buffer-requires : goal.make_buffer-requires
make_buffer-requires c = holds-log c.args.bytes.items c.args.progress c.in-Some.schema c.requires
    (sym c.is_end.ensures ∙ c.if-not-is_end.false) c.in-Some.is

pub returns-clause-spelled : goal.returns-clause-spelled
returns-clause-spelled c =
    let bytes = c.args.bytes.items in
    let schema = c.in-Some.schema in
    let held = holds-log bytes c.args.progress schema c.requires
    (sym c.is_end.ensures ∙ c.if-not-is_end.false) c.in-Some.is in
    let spelled = c.spells.ensures (record { tables = schema; txns = txns_in bytes })
    (ap log_of c.deref.ensures.value ∙ held.log) in
    subst (λ (l : Log). Spells bytes l.tables l.txns) (sym c.make_buffer.ensures)
    (subst (λ (bs : List ℕ). Spells bs schema (txns_in bytes)) c.deref.ensures.value spelled)
