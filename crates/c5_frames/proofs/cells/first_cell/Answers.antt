use Rattle.c5_frames.proofs.RefLemmas.{text-checked}
use Rattle.c5_frames.proofs.cells.first_cell.Goals as goal

pub unreachable-requires : goal.unreachable-requires
unreachable-requires c =
    let allowed = text-checked c.args.bytes.now _ _ c.first_text.ensures in
    cc (allowed, c.new.ensures, c.in-Err.is)
