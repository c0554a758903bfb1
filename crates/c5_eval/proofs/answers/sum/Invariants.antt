use Rattle.std.proofs.Common.{◌≡◌, ◌*◌, ◌++◌, List, map, take, pos, neg_ℤ, ◌≤ℤ◌}
use Rattle.c5_definitions.specs.Follows.{Read}
use Rattle.c5_definitions.specs.Answers.{sum_in, table_names}
use Rattle.c5_eval.proofs.answers.sum.Given as goal

-- the keys so far were asked for, and the sum of their numbers is within as many i64
abbrev pub invariant-loop-key : goal.invariant-loop-key
invariant-loop-key g l = record {
  taken : (reads : List Read) × (g.R.ReadRows.asked l.rows ≡ g.R.ReadRows.asked l.fn.rows ++ reads)
      × (map (λ read. read.0) reads ≡ table_names l.table (take l.key-index l.keys))
      × (l.sum ≡ sum_in l.col (map (λ read. read.1) reads));
  low : neg_ℤ (pos (9223372036854775808 * l.key-index)) ≤ℤ l.sum;
  high : l.sum ≤ℤ pos (9223372036854775808 * l.key-index);
  base : g.R.ReadRows.base l.rows ≡ g.R.ReadRows.base l.fn.rows;
  refusals : g.R.ReadRows.refusals l.rows ≡ g.R.ReadRows.refusals l.fn.rows;
}
