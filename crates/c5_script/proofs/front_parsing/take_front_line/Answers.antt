use Rattle.std.proofs.Common.{◌∙◌, Ok, ap, sym}
use Rattle.c5_definitions.specs.Lines.{words_of}
use Rattle.c5_definitions.specs.Statements.{after_front_line}
use Rattle.c5_script.specs.Words.{held_words}
use Rattle.c5_script.proofs.ParseLaws.{words_fail, step_fails}
use Rattle.c5_script.proofs.front_parsing.take_front_line.Goals as goal

pub returns-in-Err-clause-step : goal.returns-in-Err-clause-step
returns-in-Err-clause-step c = rw c.on_line.ensures
    (words_fail c.args.number c.in-Err.error (words_of c.args.line.now)
    (after_front_line c.args.script.now) c.in-Err.ensures)

pub returns-in-Err-take_front_line-clause-step : goal.returns-in-Err-take_front_line-clause-step
returns-in-Err-take_front_line-clause-step c =
    let held = c.in_default.ensures ∙ ap (λ words. Ok (held_words words))
    (sym c.deref.ensures.value) in
    rw c.on_line-in-Err-take_front_line.ensures
    (step_fails c.args.number c.in-Err-take_front_line.error (words_of c.args.line.now)
    (held_words c.deref.result.now)
    (after_front_line c.args.script.now) held c.in-Err-take_front_line.ensures.step)
