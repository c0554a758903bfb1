use Rattle.std.proofs.Common.{◌≡◌, ◌≤ℤ◌, ◌*◌, pos, neg_ℤ, ◌+ℤ◌, drop}
use Rattle.c5_definitions.specs.Summaries.{rows_total}
use Rattle.c5_driver.specs.Figures.{max_row_total}
use Rattle.c5_driver.proofs.figures.rows_sum.Given as goal

-- the sum of the rows so far, which is within as many row totals, and of those that are left
abbrev pub invariant-loop-entry : goal.invariant-loop-entry
invariant-loop-entry l = record {
  summed : l.sum +ℤ rows_total (drop l.entry-index l.entries) ≡ rows_total l.fn.entries;
  low : neg_ℤ (pos (max_row_total * l.entry-index)) ≤ℤ l.sum;
  high : l.sum ≤ℤ pos (max_row_total * l.entry-index);
}
