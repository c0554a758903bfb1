use Rattle.std.proofs.Common.{◌≡◌, ◌∙◌, ◌≤◌, ℕ, List, sym, ap, subst}
use Rattle.std.specs.List.{All}
use Rattle.c5_rows.specs.declared.answer.Reply.{Reply}
use Rattle.c5_rows.specs.declared.writes.Txn.{Txn}
use Rattle.c5_definitions.specs.Outputs.{order_text}
use Rattle.c5_definitions.specs.SerialRun.{script_numbers}
use Rattle.c5_driver.proofs.TurnRuns.{turns-within, turns-printed, turned}
use Rattle.c5_driver.proofs.turns.text_of_turns.Goals as goal

pub push_report-requires : goal.push_report-requires
push_report-requires c =
    let report = c.in_ok-report.report in
    subst (λ (n : ℕ). All (λ (reply : Reply). reply.place ≤ n) report.replies)
    (sym c.transactions-total.ensures)
    (turns-within c.args.script.now c.in_ok-log.log c.args.options.workers report.replies
    report.rows report.put_off c.in_ok-report.ensures)

pub returns : goal.returns
returns c =
    let report = c.in_ok-report.report in
    let ordered : c.in_ok-text.text.items ≡ order_text (script_numbers c.in_ok-txns.txns.items) =
    c.in_ok-text.ensures ∙ ap
    (λ (ts : List Txn). order_text (script_numbers ts)) c.deref.ensures.value in
    turned c.args.script.now c.in_ok-txns.txns.items c.in_ok-log.log.txns c.args.options.workers
    c.in_ok-text.text.items _ c.in_ok-txns.ensures.exact
    (c.in_ok-log.ensures.txns ∙ c.deref-2.ensures.value) ordered
    (turns-printed c.args.script.now c.in_ok-log.log c.args.options.workers report.replies
    report.rows report.put_off _ _ c.transactions-total.result c.in_ok-report.ensures
    c.transactions-total.ensures c.in_ok-push_report.ensures)
