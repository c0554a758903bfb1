use Rattle.std.proofs.Common.{◌≡◌, ◌∙◌, ◌+◌, ◌-◌, ℕ, List, [], Some, None, Ok, refl, ap, sym, arith}
use Rattle.std.proofs.Common.{if◌then◌else◌}
use Rattle.std.proofs.lemmas.Bool.{eqb-true}
use Rattle.std.proofs.lemmas.List.{nil_from_length}
use Rattle.std.proofs.lemmas.Result.{err_from_is_err_and}
use Rattle.c5_definitions.specs.ScriptParts.{ScriptParts}
use Rattle.c5_definitions.specs.ScriptSoFar.{ScriptSoFar, is_closed, parts_of}
use Rattle.c5_definitions.specs.Lines.{lines_of, after_lines}
use Rattle.c5_definitions.specs.Script.{front_from}
use Rattle.c5_script.specs.declared.partial.Taken.{Taken}
use Rattle.c5_script.specs.Front.{front_line_of}
use Rattle.c5_script.proofs.FrontLaws.{behind-next, front-starts, front-goes, front-fails}
use Rattle.c5_script.proofs.FrontLaws.{front-unclosed, front-ends, log-finishes}
use Rattle.c5_script.proofs.front_parsing.parse_front.Goals as goal

pub loop-rest-init : goal.loop-rest-init
unfolding after_lines
loop-rest-init c = record {
  whole = front-starts c.args.bytes.now c.new-script.result c.new-script.ensures;
  behind = refl;
  some = omega arith;
  within = omega arith;
}

pub loop-rest-preserved : goal.loop-rest-preserved
loop-rest-preserved c =
    let number = c.loop-rest.number in
    let script = c.loop-rest.script in
    let next = c.take_front_line.new.script in
    let behind = c.first_line.result.1.now in
    let more : (number + 1) - 1 ≡ number = omega arith in
    record {
      whole = c.loop-rest.invariant.whole ∙ ap (front_from number script) c.first_line.ensures.lines
          ∙ front-goes number script next c.first_line.result.0.now (lines_of behind)
          (c.in_ok-take_front_line.ensures.step ∙ ap
          (λ (taken : Taken). Ok (front_line_of next taken)) c.in-More.is);
      behind = ap (λ (n : ℕ). after_lines n c.args.bytes.now) more
          ∙ behind-next number c.args.bytes.now c.loop-rest.rest.now behind
          c.loop-rest.invariant.some c.loop-rest.invariant.behind c.first_line.ensures.behind;
      some = omega arith;
      within = omega arith;
    }

pub returns-in_err-take_front_line : goal.returns-in_err-take_front_line
returns-in_err-take_front_line c =
    let p = err_from_is_err_and c.from_residual.result c.from_residual.ensures.1 in
    let number = c.loop-rest.number in
    let script = c.loop-rest.script in
    rw (p.1, p.2)
    (front-fails number script c.first_line.result.0.now
    (lines_of c.first_line.result.1.now) c.args.bytes.now c.in_err-take_front_line.field-0.0
    (c.loop-rest.invariant.whole ∙ ap (front_from number script) c.first_line.ensures.lines)
    c.in_err-take_front_line.ensures.step)

pub unreachable-requires : goal.unreachable-requires
unreachable-requires c =
    let number = c.loop-rest.number in
    let script = c.loop-rest.script in
    let next = c.take_front_line.new.script in
    let line = c.first_line.result.0.now in
    let taken = c.in_ok-take_front_line.ensures.step ∙ ap
    (λ (taken : Taken). Ok (front_line_of next taken)) c.in-Log.is in
    let kept : next ≡ script = c.in_ok-take_front_line.ensures.log
    (ap (λ (taken : Taken). Ok taken) c.in-Log.is) in
    let found = c.in-None.ensures ∙ ap
    (λ (s : ScriptSoFar). if is_closed s then Some (parts_of s) else None) kept in
    let all = log-finishes number script line None taken found in
    absurd cc

pub returns-in-Log : goal.returns-in-Log
returns-in-Log c =
    let number = c.loop-rest.number in
    let script = c.loop-rest.script in
    let next = c.take_front_line.new.script in
    let line = c.first_line.result.0.now in
    let behind = c.first_line.result.1.now in
    let taken = c.in_ok-take_front_line.ensures.step ∙ ap
    (λ (taken : Taken). Ok (front_line_of next taken)) c.in-Log.is in
    let kept : next ≡ script = c.in_ok-take_front_line.ensures.log
    (ap (λ (taken : Taken). Ok taken) c.in-Log.is) in
    let found = c.in-Some.ensures ∙ ap
    (λ (s : ScriptSoFar). if is_closed s then Some (parts_of s) else None) kept in
    let all : Some c.in-Some.script ≡ Some (parts_of script) =
    log-finishes number script line (Some c.in-Some.script) taken found in
    let same : c.in-Some.script ≡ parts_of script = cc in
    front-ends number script line (lines_of behind) c.args.bytes.now behind
    (c.loop-rest.invariant.whole ∙ ap (front_from number script) c.first_line.ensures.lines) taken
    (behind-next number c.args.bytes.now c.loop-rest.rest.now behind c.loop-rest.invariant.some
    c.loop-rest.invariant.behind c.first_line.ensures.behind)
    ∙ ap (λ (parts : ScriptParts). Ok (parts, behind)) (sym same)

pub returns : goal.returns
returns c =
    let nothing : c.loop-rest.rest.now ≡ [] =
    nil_from_length _ (eqb-true _ _ (sym c.loop-rest-test.ensures)) in
    front-unclosed c.loop-rest.number c.loop-rest.script c.args.bytes.now
    (c.loop-rest.invariant.whole ∙ ap
    (λ (rest : List ℕ). front_from c.loop-rest.number c.loop-rest.script (lines_of rest))
    nothing)
