use Rattle.std.proofs.Common.{List, map, ◌≡◌, ◌∙◌, ap, pos}
use Rattle.c5_rows.specs.State.{entry_of}
use Rattle.c5_definitions.specs.Outputs.{no_rows}
use Rattle.c5_definitions.specs.Summaries.{rows_total}
use Rattle.c5_rows.specs.State.{rows_of}
use Rattle.c5_rows.specs.declared.cells.Cell.{Cell}
use Rattle.c5_gen.proofs.Balances.{shows-total}
use Rattle.c5_gen.proofs.MoneyRuns.{generated-runs}
use Rattle.c5_gen.proofs.Opening.{no-entries}
use Rattle.c5_gen.proofs.laws.money_law.Goals as goal

none : rows_total (rows_of no_rows) ≡ pos 0
none = ap (λ es. rows_total (map entry_of es)) (no-entries (List Cell))

pub returns : goal.returns
returns c count some = record {
  before = none;
  after = λ p many.
      let after = (generated-runs count some).holds p many in
      shows-total _ after.0 after.1.shows ∙ ap pos after.1.money;
}
