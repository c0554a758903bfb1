use Rattle.std.proofs.Common.{◌≡◌, ◌≤ℤ◌, ◌*◌, pos, neg_ℤ, ◌+ℤ◌, drop}
use Rattle.c5_definitions.specs.Summaries.{row_total}
use Rattle.c5_driver.proofs.figures.row_sum.Given as goal

-- the sum of the cells so far, which is within as many i64, and of those that are left
abbrev pub invariant-loop-cell : goal.invariant-loop-cell
invariant-loop-cell l = record {
  summed : l.sum +ℤ row_total (drop l.cell-index l.cell-items) ≡ row_total l.row;
  low : neg_ℤ (pos (9223372036854775808 * l.cell-index)) ≤ℤ l.sum;
  high : l.sum ≤ℤ pos (9223372036854775808 * l.cell-index);
  items : l.cell-items ≡ l.row;
}
