use Rattle.c5_gen.proofs.Counts.{summary-law}
use Rattle.c5_gen.proofs.laws.summary_law.Goals as goal

pub returns : goal.returns
returns c count places some are = summary-law count places some are
