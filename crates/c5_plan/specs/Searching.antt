-- What a search for a place by halves has found so far.
use Rattle.std.specs.Prelude.{◌<◌, ◌≤◌, ◌+◌, ℕ, List, length}
use Rattle.c5_rows.specs.declared.writes.Txn.{Txn}
use Rattle.c5_definitions.specs.WriteNumbers.{end_of}

-- the writes of one place are below the number, and those of each place from the other one on
-- aren't
pub record IsBetween (txns : List Txn) (least below above : ℕ) : Type 0 where
  pub order : below < above
  pub within : above ≤ length txns + 1
  pub below_least : end_of txns below < least
  pub not_below : (p : ℕ) → above ≤ p → p ≤ length txns → least ≤ end_of txns p
