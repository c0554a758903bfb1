use Rattle.std.proofs.Common.{◌≡◌, ◌++◌, List, drop}
use Rattle.c5_definitions.specs.Follows.{Read}
use Rattle.c5_eval.proofs.Walks.{Leads}
use Rattle.c5_eval.proofs.walking.evaluate.Given as goal

-- however the statements that are left end over more reads, the whole body ends so over the reads
-- so far and those
abbrev pub invariant-loop-statement : goal.invariant-loop-statement
invariant-loop-statement g l = record {
  leads : (reads : List Read) × (g.R.ReadRows.asked l.rows ≡ g.R.ReadRows.asked l.fn.rows ++ reads)
      × Leads l.statement-items (drop l.statement-index l.statement-items) l.own reads;
  base : g.R.ReadRows.base l.rows ≡ g.R.ReadRows.base l.fn.rows;
  refusals : g.R.ReadRows.refusals l.rows ≡ g.R.ReadRows.refusals l.fn.rows;
  items : l.statement-items ≡ l.body;
}
