use Rattle.c5_gen.proofs.FirstCounts.{one-bytes, two-bytes, two-declined-none, two-written}
use Rattle.c5_gen.proofs.laws.worked_summaries.Goals as goal

pub returns : goal.returns
returns c = record {
  one = one-bytes;
  two = two-bytes;
  declined = two-declined-none;
  writes = two-written;
}
