use Rattle.std.proofs.Common.{length, ap, arith}
use Rattle.std.proofs.lemmas.Result.{err_from_is_err_and}
use Rattle.std.proofs.lemmas.List.{length_push}
use Rattle.c5_definitions.specs.ScriptParts.{ScriptParts}
use Rattle.c5_definitions.specs.Places.{turn_in, each_in}
use Rattle.c5_script.specs.Partial.{with_turns}
use Rattle.c5_script.specs.Words.{held_word, held_words}
use Rattle.c5_script.proofs.Each.{turns-more, turns-fail, turns-all}
use Rattle.c5_script.proofs.headings.push_turns.Goals as goal

pub returns-in_err-turn : goal.returns-in_err-turn
returns-in_err-turn c =
    let total = with_turns c.args.script.now (each_in turn_in (held_words c.args.words.now)) in
    let p = err_from_is_err_and c.from_residual.result c.from_residual.ensures.1 in
    rw (p.1, p.2)
    (turns-fail held_word c.args.words.now c.loop-word.word-index _ c.loop-word.script _ total
    c.loop-word-test.true c.in_err-turn.ensures.value c.loop-word.invariant.0)

pub loop-word-preserved : goal.loop-word-preserved
loop-word-preserved c =
    let total = with_turns c.args.script.now (each_in turn_in (held_words c.args.words.now)) in (
      turns-more held_word c.args.words.now c.loop-word.word-index _ c.loop-word.script
          c.push_turn.new.self c.in_ok-turn.turn total c.loop-word-test.true
          c.in_ok-turn.ensures.value c.in_ok-push_turn.ensures.ok c.loop-word.invariant.0,
      let before = c.loop-word.invariant.1 in
          let longer =
          ap (λ (parts : ScriptParts). length parts.turns) c.in_ok-push_turn.ensures.ok in
          omega (arith, before, longer, length_push c.loop-word.script.turns c.in_ok-turn.turn),
    )

pub returns : goal.returns
returns c =
    let total = with_turns c.args.script.now (each_in turn_in (held_words c.args.words.now)) in
    turns-all held_word c.args.words.now c.loop-word.word-index c.loop-word.script total
    c.loop-word-test.false c.loop-word.invariant.0
