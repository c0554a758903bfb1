use Rattle.c5_reads.proofs.LastWrites.{rows_are_of_last_writes}
use Rattle.c5_reads.proofs.law.last_write_law.Goals as goal

pub returns : goal.returns
returns c = rows_are_of_last_writes
