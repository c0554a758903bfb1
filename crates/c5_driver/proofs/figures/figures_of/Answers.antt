use Rattle.std.proofs.Common.{◌≡◌, ◌∙◌, length, ap, rules, to_z, of_z}
use Rattle.std.specs.Int.{w128}
use Rattle.c5_definitions.specs.Summaries.{rows_total}
use Rattle.c5_driver.proofs.Passed.{writes-run}
use Rattle.c5_driver.proofs.figures.figures_of.Goals as goal

pub returns : goal.returns
returns c =
    let bytes = ap length (c.bytes.ensures.value ∙ c.bytes.ensures.spelled.spelling) in
    let writes = c.writes.ensures.value ∙ writes-run c.args.log.now.txns in
    let long : c.len.result ≡ length c.in_ok-entries.entries.items = search rules in
    let rows = long ∙ ap length c.in_ok-entries.ensures in
    let held : to_z w128 (of_z w128 c.rows_sum.result) ≡ c.rows_sum.result = search rules in
    let total = held ∙ c.rows_sum.ensures
    ∙ ap rows_total (c.deref.ensures.value ∙ c.in_ok-entries.ensures) in
    λ i. record {
      transactions = c.transactions.ensures i;
      declined = c.declined_in.ensures i;
      writes = writes i;
      bytes = bytes i;
      rows = rows i;
      total = total i;
      reads = record { replied = length c.args.replies.now; whole = c.whole_in.ensures i };
    }
