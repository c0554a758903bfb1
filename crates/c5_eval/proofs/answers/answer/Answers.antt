use Rattle.std.proofs.Common.{◌++◌, List, subst, rules}
use Rattle.c5_definitions.specs.declared.script.ReadLine.{ReadLine}
use Rattle.c5_definitions.specs.Answers.{IsAnswered}
use Rattle.c5_eval.proofs.Walks.{read_on}
use Rattle.c5_eval.proofs.Blocks.{rounds_on, rounds_end}
use Rattle.c5_eval.proofs.answers.answer.Goals as goal

pub loop-line-preserved : goal.loop-line-preserved
loop-line-preserved g c =
    let before = c.loop-line.invariant in
    let rounds = before.rounds in
    let answered = c.in-Ok.ensures.answered in
    record {
      rounds = (
        rounds.0 ++ answered.0,
        read_on _ rounds.0 answered.0 _ _ rounds.1 answered.1,
        rw c.in_ok-push-in-Ok.ensures.ok
            (rounds_on _ _ c.line-item.result rounds.0 answered.0 c.loop-line.answer c.in-Ok.line
            c.loop-line-test.true c.line-item.is answered.2 answered.3 rounds.2),
      );
      base = search rules;
      refusals = search rules;
      items = before.items;
    }

pub returns-clause-answered : goal.returns-clause-answered
returns-clause-answered g c =
    let before = c.loop-line.invariant in
    let rounds = before.rounds in (
      rounds.0,
      rounds.1,
      subst (λ (ls : List ReadLine). IsAnswered ls rounds.0 c.loop-line.answer) before.items
          (rounds_end _ _ rounds.0 c.loop-line.answer c.loop-line-test.false rounds.2),
    )
