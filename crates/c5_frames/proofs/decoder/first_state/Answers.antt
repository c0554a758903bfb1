use Rattle.c5_frames.proofs.Pieces.{Decodes-start}
use Rattle.c5_frames.proofs.decoder.first_state.Goals as goal

pub returns-clause-decodes : goal.returns-clause-decodes
returns-clause-decodes c = Decodes-start c.new.result c.new.ensures
