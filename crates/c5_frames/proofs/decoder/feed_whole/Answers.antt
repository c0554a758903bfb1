use Rattle.std.proofs.Common.{◌∙◌, ap, sym, subst, List, ℕ}
use Rattle.c5_definitions.specs.Items.{after_bytes, at_start}
use Rattle.c5_frames.specs.DecoderStates.{IsReady, decoded_state}
use Rattle.c5_frames.proofs.Pieces.{ready-more, reads-part}
use Rattle.c5_frames.proofs.decoder.feed_whole.Goals as goal

pub take_items-requires : goal.take_items-requires
take_items-requires c =
    subst (λ (bytes : List ℕ). IsReady bytes c.take_piece.new.progress) (sym c.deref.ensures.value)
    (ready-more c.args.bytes.now.items c.args.piece.now c.take_piece.new.bytes.items
    c.args.progress.now c.take_piece.new.progress c.requires.decodes c.requires.small
    c.in-Ok.ensures.state c.in-Ok.ensures.ok c.in-Ok.ensures.room)

pub returns-in-Ok-take_items-clause-feeds : goal.returns-in-Ok-take_items-clause-feeds
returns-in-Ok-take_items-clause-feeds c =
    let ready = c.in-Ok-take_items.ensures.ready in
    let read = reads-part c.deref.result.now
    (decoded_state c.take_items.new.p) ready.tracks c.in-Ok-take_items.ensures.part in
    (c.in-Ok.ensures.ok, _, ap (after_bytes at_start) (sym c.deref.ensures.value) ∙ read)
