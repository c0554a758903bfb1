use Rattle.c5_workers.proofs.FirstWrites.{rows_are_first_writes}
use Rattle.c5_workers.proofs.scheduling.first_write_law.Goals as goal

pub returns : goal.returns
returns c = rows_are_first_writes
