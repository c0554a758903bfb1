use Rattle.std.proofs.Common.{◌∙◌, ◌∷◌, [], length, ap, arith}
use Rattle.std.proofs.lemmas.List.{length-append}
use Rattle.std.proofs.lemmas.Result.{err_from_is_err_and}
use Rattle.c5_definitions.specs.Places.{key_in, each_in}
use Rattle.c5_script.specs.Words.{held_word, held_words}
use Rattle.c5_script.proofs.Each.{each-more, each-fail, each-all, first-fails, first-read}
use Rattle.c5_script.proofs.lists.keys.Goals as goal

pub returns-in_err-first_key : goal.returns-in_err-first_key
returns-in_err-first_key c =
    let p = err_from_is_err_and c.from_residual.result c.from_residual.ensures.1 in
    rw (p.1, p.2)
    (first-fails key_in (held_word c.args.first)
    (held_words c.args.others.now) _ c.in_err-first_key.ensures)

pub loop-word-init : goal.loop-word-init
loop-word-init c = record {
  room = ap length c.one-keys.ensures;
  reading = rw c.one-keys.ensures
      (first-read key_in (held_word c.args.first)
      (held_words c.args.others.now) c.in_ok-first_key.first_key c.in_ok-first_key.ensures);
}

pub returns-in_err-next : goal.returns-in_err-next
returns-in_err-next c =
    let total = each_in key_in (held_word c.args.first ∷ held_words c.args.others.now) in
    let p = err_from_is_err_and c.from_residual-in_err-next.result
    c.from_residual-in_err-next.ensures.1 in
    rw (p.1, p.2)
    (each-fail held_word key_in c.args.others.now c.loop-word.word-index _ c.loop-word.keys _
    total c.loop-word-test.true c.in_err-next.ensures c.loop-word.invariant.reading)

pub loop-word-preserved : goal.loop-word-preserved
loop-word-preserved c =
    let total = each_in key_in (held_word c.args.first ∷ held_words c.args.others.now) in
    record {
      room = ap length c.push.ensures ∙ omega
          (arith, length-append c.loop-word.keys (c.in_ok-next.next ∷ []));
      reading = rw c.push.ensures
          (each-more held_word key_in c.args.others.now c.loop-word.word-index _ c.loop-word.keys
          c.in_ok-next.next total c.loop-word-test.true c.in_ok-next.ensures
          c.loop-word.invariant.reading);
    }

pub returns : goal.returns
returns c =
    let total = each_in key_in (held_word c.args.first ∷ held_words c.args.others.now) in
    each-all held_word key_in c.args.others.now c.loop-word.word-index c.loop-word.keys total
    c.loop-word-test.false c.loop-word.invariant.reading
