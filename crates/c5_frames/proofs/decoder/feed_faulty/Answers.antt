use Rattle.std.proofs.Common.{◌∙◌, ap}
use Rattle.c5_definitions.specs.Items.{after_bytes, at_start}
use Rattle.c5_frames.proofs.Pieces.{fault-stays}
use Rattle.c5_frames.proofs.decoder.feed_faulty.Goals as goal

pub returns-in-Ok-clause-feeds : goal.returns-in-Ok-clause-feeds
returns-in-Ok-clause-feeds c = (
  c.in-Ok.ensures.items,
  ap (after_bytes at_start) c.in-Ok.ensures.items ∙ fault-stays c.args.bytes.now.items
      c.args.piece.now c.args.found c.requires.fault,
)

pub returns-in-Ok-clause-fault : goal.returns-in-Ok-clause-fault
returns-in-Ok-clause-fault c =
    ap (after_bytes at_start) c.in-Ok.ensures.items ∙ fault-stays c.args.bytes.now.items
    c.args.piece.now c.args.found c.requires.fault
