use Rattle.std.proofs.Common.{◌≡◌, ◌≤◌, ◌+◌, drop}
use Rattle.std.specs.List.{count_by}
use Rattle.c5_definitions.specs.Summaries.{is_whole}
use Rattle.c5_driver.proofs.figures.whole_in.Given as goal

-- what was counted, and what is left to count
abbrev pub invariant-loop-reply : goal.invariant-loop-reply
invariant-loop-reply l = record {
  counted : l.whole + count_by is_whole (drop l.reply-index l.replies)
      ≡ count_by is_whole l.fn.replies;
  few : l.whole ≤ l.reply-index;
}
