use Rattle.c5_frames.proofs.LawOneLog.{log_of-spells}
use Rattle.c5_frames.proofs.buffer.spells.Goals as goal

pub returns : goal.returns
returns c = log_of-spells c.args.bytes.now c.type_inv.bytes
