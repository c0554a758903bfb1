use Rattle.std.proofs.Common.{◌≡◌, ◌<◌, ◌+◌, ◌∙◌, ℕ, ap, List, length, take, drop, Ok, arith}
use Rattle.std.proofs.lemmas.List.{length-set, take_more_set}
use Rattle.std.proofs.lemmas.Result.{err_from_is_err_and}
use Rattle.c5_rows.specs.declared.cells.CellType.{CellType}
use Rattle.c5_definitions.specs.Places.{type_in, each_in}
use Rattle.c5_script.specs.Words.{held_word, held_words}
use Rattle.c5_script.proofs.Each.{with_front, each-more, each-fail, each-all, is_chosen}
use Rattle.c5_script.proofs.lists.column_types.Goals as goal

pub returns-in_err-found : goal.returns-in_err-found
returns-in_err-found c =
    let total = each_in type_in (held_words c.args.words.now) in
    let p = err_from_is_err_and c.from_residual.result c.from_residual.ensures.1 in
    rw (p.1, p.2)
    (each-fail held_word type_in c.args.words.now c.loop-column.column _
    (take c.loop-column.column c.loop-column.types) _ total c.loop-column-test.true
    c.in_err-found.ensures c.loop-column.invariant.reading)

pub loop-column-preserved : goal.loop-column-preserved
loop-column-preserved c =
    let total = each_in type_in (held_words c.args.words.now) in
    let room : c.loop-column.column < length c.loop-column.types = omega arith in
    let others = each_in type_in (held_words (drop (c.loop-column.column + 1) c.args.words.now)) in
    record {
      eight = length-set c.loop-column.types c.loop-column.column c.in_ok-found.found ∙
          c.loop-column.invariant.eight;
      reading =
          ap (λ (front : List CellType). with_front front others)
          (take_more_set c.loop-column.types c.loop-column.column c.in_ok-found.found room)
          ∙ each-more held_word type_in c.args.words.now c.loop-column.column _
          (take c.loop-column.column c.loop-column.types) c.in_ok-found.found total
          c.loop-column-test.true c.in_ok-found.ensures c.loop-column.invariant.reading;
    }

pub returns : goal.returns
returns c =
    let total = each_in type_in (held_words c.args.words.now) in
    let count : length c.args.words.now ≡ c.loop-column.column = omega arith in
    ap (λ (types : List CellType). Ok types)
    (is_chosen _ _ _ c.in-Some.ensures ∙ ap (λ (n : ℕ). take n c.loop-column.types) count)
    ∙ each-all held_word type_in c.args.words.now c.loop-column.column
    (take c.loop-column.column c.loop-column.types) total c.loop-column-test.false
    c.loop-column.invariant.reading
