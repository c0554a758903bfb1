use Rattle.std.proofs.Common.{◌≡◌, ◌≤◌, ◌+◌, drop}
use Rattle.std.specs.List.{count_by}
use Rattle.c5_definitions.specs.Summaries.{is_declined}
use Rattle.c5_driver.proofs.figures.declined_in.Given as goal

-- what was counted, and what is left to count
abbrev pub invariant-loop-p : goal.invariant-loop-p
invariant-loop-p l = record {
  counted : l.declined + count_by is_declined (drop l.p l.log.txns)
      ≡ count_by is_declined l.log.txns;
  few : l.declined ≤ l.p;
}
