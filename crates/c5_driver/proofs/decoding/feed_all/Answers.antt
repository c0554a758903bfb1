use Rattle.c5_driver.proofs.Feeding.{stops-refuses}
use Rattle.c5_driver.proofs.decoding.feed_all.Goals as goal

pub returns-in-Err : goal.returns-in-Err
returns-in-Err g c =
    let left = g.S.Source.left in
    let faults = g.S.Source.faults in
    stops-refuses c.in-Err.refusal c.args.limit (left c.args.source.now) (left c.pieces.source)
    (left c.feed_next.new.source) (faults c.args.source.now) (faults c.pieces.source)
    (faults c.feed_next.new.source) c.pieces.decoder
    c.pieces.invariant.within c.pieces.invariant.faults c.pieces.invariant.taken
    c.in-Err.ensures.refused
