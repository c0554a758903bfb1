use Rattle.std.proofs.Common.{refl}
use Rattle.c5_definitions.specs.WriteNumbers.{names_in, are_on_one_row, row_of}
use Rattle.c5_definitions.specs.RowIndex.{bucket_count, fnv_1a, start_of, next_bucket, free_from}
use Rattle.c5_definitions.specs.RowIndex.{start_of_write, index_with, index_up_to, first_in_bucket}
use Rattle.c5_definitions.proofs.numbers_worked.worked_index.Goals as goal

pub returns : goal.returns
unfolding names_in are_on_one_row row_of bucket_count fnv_1a start_of next_bucket free_from
    start_of_write index_with index_up_to first_in_bucket
returns c = record {
  hash_of_a = refl;
  hash_of_foobar = refl;
  counts = refl;
  starts = refl;
  buckets = refl;
  last_starts = refl;
  first_bucket = refl;
  one_row = refl;
}
