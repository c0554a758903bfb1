use Rattle.c5_primary.proofs.EvalFits.{StateFits-empty}
use Rattle.c5_primary.proofs.SerialLaws.{every_run}
use Rattle.c5_primary.proofs.law.serial_run_law.Goals as goal

pub returns-clause-runs : goal.returns-clause-runs
returns-clause-runs c = every_run

pub returns-clause-no_rows : goal.returns-clause-no_rows
returns-clause-no_rows c = StateFits-empty
