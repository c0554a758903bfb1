use Rattle.c5_definitions.proofs.LineLaws.{lines-ended, lines-open}
use Rattle.c5_definitions.proofs.scripts_worked.lines_read_back.Goals as goal

pub returns-clause-ended : goal.returns-clause-ended
returns-clause-ended c = lines-ended

pub returns-clause-open_at_the_end : goal.returns-clause-open_at_the_end
returns-clause-open_at_the_end c = lines-open
