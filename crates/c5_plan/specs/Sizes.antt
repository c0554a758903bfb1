-- How much a planned log may hold.
use Rattle.std.specs.Prelude.{◌≤◌, length}
use Rattle.c5_definitions.specs.WriteNumbers.{names_in}
use Rattle.c5_frames.specs.Log.{Log}
use Rattle.c5_rows.specs.Sizes.{max_transactions, max_writes}

-- at most 65,536 transactions and 262,144 writes
pub record IsPlanned (log : Log) : Type 0 where
  pub transactions : length log.txns ≤ max_transactions
  pub writes : length (names_in log.txns) ≤ max_writes
