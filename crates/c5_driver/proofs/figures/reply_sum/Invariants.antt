use Rattle.std.proofs.Common.{◌≡◌, ◌≤ℤ◌, ◌*◌, pos, ◌+ℤ◌, drop}
use Rattle.c5_definitions.specs.Summaries.{all_money, reply_total}
use Rattle.c5_driver.proofs.figures.reply_sum.Given as goal

-- the sum of the parts so far, each of which is at most all money, and of those that are left
abbrev pub invariant-loop-line : goal.invariant-loop-line
invariant-loop-line l = record {
  summed : l.sum +ℤ reply_total (drop l.line-index l.line-items) ≡ reply_total l.reply.answer;
  low : pos 0 ≤ℤ l.sum;
  high : l.sum ≤ℤ pos (all_money * l.line-index);
  items : l.line-items ≡ l.reply.answer;
}
