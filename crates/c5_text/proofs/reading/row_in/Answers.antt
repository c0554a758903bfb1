use Rattle.std.proofs.Common.{◌≡◌, ◌<◌, ◌∙◌, ℕ, sym, ap, length, take, Some, arith}
use Rattle.std.proofs.lemmas.List.{length-set}
use Rattle.c5_text.specs.Reading.{printed_cells_at}
use Rattle.c5_text.proofs.Loops.{cells-more, cells-fail, cells-all, row-fail, row-left, row-whole}
use Rattle.c5_text.proofs.Loops.{row_or_none-is}
use Rattle.c5_text.proofs.reading.row_in.Goals as goal

pub returns-in-None : goal.returns-in-None
returns-in-None c =
    let total = printed_cells_at c.args.columns.now c.args.bytes.now in
    sym (row-fail c.args.columns.now c.args.bytes.now
    (cells-fail c.args.columns.now c.loop-column.column _ _ c.loop-column.rest.now total
    c.loop-column-test.true c.in-None.ensures c.loop-column.invariant.1))

pub loop-column-preserved : goal.loop-column-preserved
loop-column-preserved c =
    let total = printed_cells_at c.args.columns.now c.args.bytes.now in
    let room : c.loop-column.column < length c.loop-column.cells = omega arith in (
      length-set c.loop-column.cells c.loop-column.column c.in-Some.found.0 ∙
          c.loop-column.invariant.0,
      cells-more c.args.columns.now c.loop-column.column _ c.loop-column.cells c.in-Some.found.0
          c.loop-column.rest.now c.in-Some.found.1.now total c.loop-column-test.true room
          c.in-Some.ensures c.loop-column.invariant.1,
    )

pub returns-then-not-is_empty : goal.returns-then-not-is_empty
returns-then-not-is_empty c =
    let total = printed_cells_at c.args.columns.now c.args.bytes.now in
    let all =
    cells-all c.args.columns.now c.loop-column.column _ c.loop-column.rest.now total
    c.loop-column-test.false c.loop-column.invariant.1 in
    sym (row-left c.args.columns.now c.args.bytes.now c.loop-column.rest.now _ all
    c.if-not-is_empty.ensures)

pub returns : goal.returns
returns c =
    let total = printed_cells_at c.args.columns.now c.args.bytes.now in
    let count : length c.args.columns.now ≡ c.loop-column.column = omega arith in
    let all =
    cells-all c.args.columns.now c.loop-column.column _ c.loop-column.rest.now total
    c.loop-column-test.false c.loop-column.invariant.1 in
    let some = c.requires.some in
    let most = c.requires.few in
    c.new.ensures
    ∙ row_or_none-is c.loop-column.cells
    (length c.args.columns.now) some most c.loop-column.invariant.0
    ∙ ap (λ (n : ℕ). Some (take n c.loop-column.cells)) count
    ∙ sym (row-whole c.args.columns.now c.args.bytes.now c.loop-column.rest.now _ all
    c.if-not-is_empty.ensures)
