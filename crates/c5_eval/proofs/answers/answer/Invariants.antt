use Rattle.std.proofs.Common.{◌≡◌, ◌++◌, List, drop}
use Rattle.c5_definitions.specs.Follows.{Read}
use Rattle.c5_eval.proofs.Blocks.{Rounds}
use Rattle.c5_eval.proofs.answers.answer.Given as goal

-- what answers the lines that are left makes, after the lines so far, the answer to all
abbrev pub invariant-loop-line : goal.invariant-loop-line
invariant-loop-line g l = record {
  rounds : (reads : List Read) × (g.R.ReadRows.asked l.rows ≡ g.R.ReadRows.asked l.fn.rows ++ reads)
      × Rounds l.line-items (drop l.line-index l.line-items) reads l.answer;
  base : g.R.ReadRows.base l.rows ≡ g.R.ReadRows.base l.fn.rows;
  refusals : g.R.ReadRows.refusals l.rows ≡ g.R.ReadRows.refusals l.fn.rows;
  items : l.line-items ≡ l.read.lines;
}
