use Rattle.std.proofs.Common.{◌<◌, ◌≤◌, ◌∙◌, ◌∷◌, [], sym, length, ap, arith}
use Rattle.std.proofs.lemmas.List.{length-append}
use Rattle.std.proofs.lemmas.Result.{err_from_is_err_and}
use Rattle.c5_definitions.specs.Places.{cells_in}
use Rattle.c5_script.specs.Words.{held_word, held_words}
use Rattle.c5_script.proofs.Each.{with_front-none, cells-more, cells-fail, cells-all, row-read}
use Rattle.c5_script.proofs.Each.{row-counted}
use Rattle.c5_script.proofs.lists.read_row.Goals as goal

pub returns-then-words-columns : goal.returns-then-words-columns
returns-then-words-columns c = sym
    (row-counted held_word c.args.columns.now c.args.words.now c.if-words-columns.true)

pub returns-in_err-first : goal.returns-in_err-first
returns-in_err-first c =
    let total = cells_in c.args.columns.now (held_words c.args.words.now) in
    let p = err_from_is_err_and c.from_residual.result c.from_residual.ensures.1 in
    let lc : 0 < length c.args.columns.now = omega arith in
    rw (p.1, p.2)
    (sym (cells-fail held_word c.args.columns.now c.args.words.now 0 _ _ [] _ total lc
    c.requires.some c.in_err-first.ensures (with_front-none total)
    ∙ sym (row-read held_word c.args.columns.now c.args.words.now c.if-words-columns.false)))

pub loop-column-init : goal.loop-column-init
loop-column-init c =
    let total = cells_in c.args.columns.now (held_words c.args.words.now) in
    let lc : 0 < length c.args.columns.now = omega arith in
    record {
      count = ap length c.one.ensures;
      reading = rw c.one.ensures
          (cells-more held_word c.args.columns.now c.args.words.now 0 _ _ [] c.in_ok-first.first
          total lc c.requires.some c.in_ok-first.ensures (with_front-none total));
    }

pub returns-in_err-next : goal.returns-in_err-next
returns-in_err-next c =
    let total = cells_in c.args.columns.now (held_words c.args.words.now) in
    let p = err_from_is_err_and c.from_residual-in_err-next.result
    c.from_residual-in_err-next.ensures.1 in
    let lc : c.loop-column.column < length c.args.columns.now = omega arith in
    rw (p.1, p.2)
    (sym (cells-fail held_word c.args.columns.now c.args.words.now c.loop-column.column _ _
    c.loop-column.row _ total lc c.loop-column-test.true c.in_err-next.ensures
    c.loop-column.invariant.reading
    ∙ sym (row-read held_word c.args.columns.now c.args.words.now c.if-words-columns.false)))

pub loop-column-preserved : goal.loop-column-preserved
loop-column-preserved c =
    let total = cells_in c.args.columns.now (held_words c.args.words.now) in
    let lc : c.loop-column.column < length c.args.columns.now = omega arith in
    record {
      count = ap length c.push.ensures ∙ omega
          (arith, length-append c.loop-column.row (c.in_ok-next.next ∷ []));
      reading = rw c.push.ensures
          (cells-more held_word c.args.columns.now c.args.words.now c.loop-column.column _ _
          c.loop-column.row c.in_ok-next.next total lc c.loop-column-test.true c.in_ok-next.ensures
          c.loop-column.invariant.reading);
    }

pub returns : goal.returns
returns c =
    let total = cells_in c.args.columns.now (held_words c.args.words.now) in
    let le : length c.args.columns.now ≤ c.loop-column.column = omega arith in
    sym (cells-all held_word c.args.columns.now c.args.words.now c.loop-column.column
    c.loop-column.row total le c.loop-column.invariant.reading
    ∙ sym (row-read held_word c.args.columns.now c.args.words.now c.if-words-columns.false))
