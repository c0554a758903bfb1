use Rattle.c5_definitions.proofs.LineLaws.{read-written, written-read}
use Rattle.c5_definitions.proofs.scripts_worked.words_read_back.Goals as goal

pub returns : goal.returns
returns c words line = (read-written words line, written-read words line)
