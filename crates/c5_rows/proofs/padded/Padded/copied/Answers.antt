use Rattle.c5_rows.specs.Padded.{IsPadded-copied}
use Rattle.c5_rows.proofs.padded.Padded.copied.Goals as goal

pub invariant_of-result : goal.invariant_of-result
invariant_of-result g c = rw c.blank-padded.ensures
    (IsPadded-copied g.T.Blank.blank_value g.row.N c.args.items.now c.copy_from_slice.new.self
    c.requires.fits c.copy_from_slice.ensures.after)
