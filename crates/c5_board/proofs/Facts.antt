-- What is used of a planned log.
use Rattle.std.proofs.Common.{ℕ, ◌≤◌}
use Rattle.c5_definitions.specs.WriteNumbers.{names_in}
use Rattle.c5_definitions.specs.NumberLaws.{RowsAreNumbered, PredecessorsAreLast, PlacesEnd}
use Rattle.c5_definitions.specs.NumberLaws.{NumbersAreOwned}
use Rattle.c5_definitions.specs.IndexLaws.{BucketsSuffice, RowsAreIndexed}
use Rattle.c5_definitions.proofs.NumberLemmas.{rows_are_numbered, predecessors_are_last, places_end}
use Rattle.c5_definitions.proofs.NumberLemmas.{numbers_are_owned}
use Rattle.c5_definitions.proofs.IndexLemmas.{buckets_suffice, rows_are_indexed}
use Rattle.c5_frames.specs.Log.{Log}
use Rattle.c5_plan.specs.Sizes.{IsPlanned}
use Rattle.c5_board.specs.Words.{writes_in}

pub record Facts (log : Log) (workers : ℕ) : Type 0 where
  pub planned : IsPlanned log
  pub some : 1 ≤ workers
  pub at_most_sixteen : workers ≤ 16
  pub rows : RowsAreNumbered (names_in log.txns)
  pub predecessors : PredecessorsAreLast (names_in log.txns)
  pub places : PlacesEnd log.txns
  pub owners : NumbersAreOwned workers
  pub buckets : BucketsSuffice (writes_in log)
  pub index : RowsAreIndexed (names_in log.txns)

pub facts : (log : Log) (workers : ℕ) → IsPlanned log → 1 ≤ workers → workers ≤ 16
    → Facts log workers
facts log workers planned some few = record {
  planned = planned;
  some = some;
  at_most_sixteen = few;
  rows = rows_are_numbered (names_in log.txns);
  predecessors = predecessors_are_last (names_in log.txns);
  places = places_end log.txns;
  owners = numbers_are_owned workers some;
  buckets = buckets_suffice (writes_in log);
  index = rows_are_indexed (names_in log.txns);
}
