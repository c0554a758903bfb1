-- How much a log may hold.
use Rattle.std.specs.Prelude.{List, length, Option}
use Rattle.c5_rows.specs.declared.writes.Txn.{Txn}
use Rattle.c5_definitions.specs.declared.limits.Excess.{Excess}
use Rattle.c5_definitions.specs.Limits.{excess_in}
use Rattle.c5_definitions.specs.WriteNumbers.{names_in}
use Rattle.c5_definitions.specs.WriteNumbers.{row_count}

-- the first limit that a log of these transactions exceeds, by its writes and the different rows
-- that they write
unfoldable pub excess_of_log : List Txn → Option Excess
excess_of_log txns = excess_in (length txns) (length (names_in txns)) (row_count (names_in txns))
