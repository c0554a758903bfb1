use Rattle.std.proofs.Common.{◌∙◌, Ok, ap, sym}
use Rattle.c5_definitions.specs.Lines.{words_of}
use Rattle.c5_definitions.specs.Statements.{after_line}
use Rattle.c5_script.specs.Words.{held_words}
use Rattle.c5_script.proofs.ParseLaws.{words_fail, step_fails}
use Rattle.c5_script.proofs.parsing.take_line.Goals as goal

pub returns-in-Err : goal.returns-in-Err
returns-in-Err c = rw c.on_line.ensures
    (words_fail c.args.number c.in-Err.error (words_of c.args.line.now)
    (after_line c.args.script.now) c.in-Err.ensures)

pub returns-in-Err-take_line : goal.returns-in-Err-take_line
returns-in-Err-take_line c =
    let held = c.in_default.ensures ∙ ap (λ words. Ok (held_words words))
    (sym c.deref.ensures.value) in
    rw c.on_line-in-Err-take_line.ensures
    (step_fails c.args.number c.in-Err-take_line.error (words_of c.args.line.now)
    (held_words c.deref.result.now)
    (after_line c.args.script.now) held c.in-Err-take_line.ensures)
