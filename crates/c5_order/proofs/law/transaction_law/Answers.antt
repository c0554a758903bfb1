use Rattle.c5_order.proofs.Later.{begins-unread, read-adds, others-keep, ends-one, last-is-free}
use Rattle.c5_order.proofs.Later.{commit-counts, commits-stay}
use Rattle.c5_order.proofs.law.transaction_law.Goals as goal

pub returns : goal.returns
returns c = record {
  begins = begins-unread;
  reads = read-adds;
  others = others-keep;
  ends = ends-one;
  last = last-is-free;
  commit = commit-counts;
  stay = commits-stay;
}
