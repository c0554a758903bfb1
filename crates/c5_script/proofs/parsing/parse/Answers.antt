use Rattle.std.proofs.Common.{◌≡◌, ◌∙◌, ℕ, List, [], ap, sym, arith}
use Rattle.std.proofs.lemmas.Bool.{eqb-true}
use Rattle.std.proofs.lemmas.List.{nil_from_length}
use Rattle.std.proofs.lemmas.Result.{err_from_is_err_and}
use Rattle.c5_definitions.specs.Lines.{lines_of}
use Rattle.c5_definitions.specs.Script.{script_from}
use Rattle.c5_script.proofs.ParseLaws.{script-starts, script-goes, script-fails, script-ends}
use Rattle.c5_script.proofs.ParseLaws.{script-unclosed}
use Rattle.c5_script.proofs.parsing.parse.Goals as goal

pub loop-rest-init : goal.loop-rest-init
loop-rest-init c = record {
  whole = script-starts c.args.bytes.now c.new-script.result c.new-script.ensures;
  within = omega arith;
}

pub loop-rest-preserved : goal.loop-rest-preserved
loop-rest-preserved c =
    let number = c.loop-rest.number in
    let script = c.loop-rest.script in
    record {
      whole = c.loop-rest.invariant.whole ∙ ap
          (script_from number script) c.first_line.ensures.lines
          ∙ script-goes number script c.take_line.new.script c.first_line.result.0.now
          (lines_of c.first_line.result.1.now) c.in_ok-take_line.ensures;
      within = omega arith;
    }

pub returns-in-Some : goal.returns-in-Some
returns-in-Some c =
    let nothing : c.loop-rest.rest.now ≡ [] =
    nil_from_length _ (eqb-true _ _ (sym c.loop-rest-test.ensures)) in
    c.loop-rest.invariant.whole ∙ ap
    (λ (rest : List ℕ). script_from c.loop-rest.number c.loop-rest.script (lines_of rest))
    nothing ∙ script-ends c.loop-rest.number c.loop-rest.script c.in-Some.script
    c.in-Some.ensures

pub returns : goal.returns
returns c =
    let nothing : c.loop-rest.rest.now ≡ [] =
    nil_from_length _ (eqb-true _ _ (sym c.loop-rest-test.ensures)) in
    c.loop-rest.invariant.whole ∙ ap
    (λ (rest : List ℕ). script_from c.loop-rest.number c.loop-rest.script (lines_of rest))
    nothing ∙ script-unclosed c.loop-rest.number c.loop-rest.script c.in-None.ensures

pub returns-in_err-take_line : goal.returns-in_err-take_line
returns-in_err-take_line c =
    let p = err_from_is_err_and c.from_residual.result c.from_residual.ensures.1 in
    let number = c.loop-rest.number in
    let script = c.loop-rest.script in
    rw (p.1, p.2, c.loop-rest.invariant.whole, c.first_line.ensures.lines)
    (script-fails number script c.first_line.result.0.now
    (lines_of c.first_line.result.1.now) c.in_err-take_line.field-0.0
    c.in_err-take_line.ensures)
