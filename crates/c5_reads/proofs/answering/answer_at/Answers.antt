use Rattle.std.proofs.Common.{◌≡◌, ◌∙◌, List, IfOk, ap, subst}
use Rattle.std.specs.FinMap.{empty}
use Rattle.c5_rows.specs.declared.answer.AnswerLine.{AnswerLine}
use Rattle.c5_rows.specs.State.{state_after}
use Rattle.c5_definitions.specs.declared.script.ReadLine.{ReadLine}
use Rattle.c5_definitions.specs.Answers.{asked_names}
use Rattle.c5_reads.specs.Reading.{with_rows}
use Rattle.c5_reads.proofs.AnswerLemmas.{same-answer}
use Rattle.c5_reads.proofs.answering.answer_at.Goals as goal

pub returns-clause-answer : goal.returns-clause-answer
returns-clause-answer c =
    let state =
    state_after c.args.origin.now.start.now c.args.board.now.log.txns c.args.origin.now.place in
    let made = c.in_ok-rows.ensures.rows ∙ ap
    (λ (lines : List ReadLine). with_rows state (asked_names lines) empty) c.lines.ensures.value
    in
    subst (λ (lines : List AnswerLine). IfOk c.answer_rows.result (λ answer. answer ≡ lines))
    (same-answer state c.args.read.now c.in_ok-rows.rows made) c.answer_rows.ensures
