use Rattle.std.proofs.Common.{◌≡◌, ◌<◌, ◌∙◌, ℕ, sym, ap, List, length, take, Ok, arith}
use Rattle.std.proofs.lemmas.List.{length-set}
use Rattle.std.proofs.lemmas.Result.{err_from_is_err_and}
use Rattle.c5_rows.specs.declared.cells.CellType.{CellType}
use Rattle.c5_definitions.specs.Items.{types_of_bytes}
use Rattle.c5_frames.proofs.Types.{types-more, types-fail, types-all, is_chosen}
use Rattle.c5_frames.proofs.header.columns_in.Goals as goal

pub returns-in_err-cell_type : goal.returns-in_err-cell_type
returns-in_err-cell_type c =
    let p = err_from_is_err_and c.from_residual.result c.from_residual.ensures.1 in
    let fault = c.in_err-cell_type.field-0.0 in
    rw (p.1, p.2)
    (sym (types-fail c.args.item.now c.loop-column.column _ _ fault
    (types_of_bytes c.args.item.now) c.loop-column-test.true
    (sym c.in_err-cell_type.ensures) c.loop-column.invariant.1))

pub loop-column-preserved : goal.loop-column-preserved
loop-column-preserved c =
    let room : c.loop-column.column < length c.loop-column.types = omega arith in (
      length-set c.loop-column.types c.loop-column.column c.in_ok-cell_type.cell_type ∙
          c.loop-column.invariant.0,
      types-more c.args.item.now c.loop-column.column _ c.loop-column.types
          c.in_ok-cell_type.cell_type (types_of_bytes c.args.item.now) c.loop-column-test.true room
          (sym c.in_ok-cell_type.ensures) c.loop-column.invariant.1,
    )

pub returns : goal.returns
returns c =
    let all = types-all c.args.item.now c.loop-column.column _
    (types_of_bytes c.args.item.now) c.loop-column-test.false c.loop-column.invariant.1 in
    let count : length c.args.item.now ≡ c.loop-column.column = omega arith in
    let types : c.in-Some.columns ≡ take (length c.args.item.now) c.loop-column.types =
    is_chosen _ _ _ c.in-Some.ensures in
    ap (λ (types : List CellType). Ok types)
    (types ∙ ap (λ (n : ℕ). take n c.loop-column.types) count) ∙ sym all
