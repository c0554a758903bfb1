use Rattle.std.proofs.Common.{◌<◌, ◌∙◌, sym, ap, length, arith}
use Rattle.std.proofs.lemmas.List.{length-take, get_or-take}
use Rattle.c5_rows.specs.declared.cells.CellType.{CellType}
use Rattle.c5_definitions.specs.Frames.{cell_at}
use Rattle.c5_frames.specs.Payloads.{unread}
use Rattle.c5_frames.specs.Refs.{cells_held}
use Rattle.c5_frames.proofs.RefLemmas.{row-cells, next-cell, next-behind}
use Rattle.c5_frames.proofs.cells.cells_from.Goals as goal

pub loop-cell_type-init : goal.loop-cell_type-init
loop-cell_type-init c = row-cells _ _ _ c.requires.row

pub after_cell-rest-requires : goal.after_cell-rest-requires
after_cell-rest-requires c =
    let columns = c.args.columns.now in
    let i = c.loop-cell_type.cell_type-index in
    let near : i < c.args.col = omega (arith, length-take c.args.col columns) in
    let within : i < length columns = omega (arith, length-take c.args.col columns) in
    let n = next-cell columns i _ c.loop-cell_type.rest.now
    (cells_held columns c.args.bytes.now) within c.loop-cell_type.invariant in (
      (n.cell, n.after),
      ap (λ (t : CellType). cell_at t c.loop-cell_type.rest.now)
          (get_or-take c.args.col columns i _ near) ∙ n.read,
    )

pub loop-cell_type-preserved : goal.loop-cell_type-preserved
loop-cell_type-preserved c =
    let columns = c.args.columns.now in
    let i = c.loop-cell_type.cell_type-index in
    let near : i < c.args.col = omega (arith, length-take c.args.col columns) in
    let within : i < length columns = omega (arith, length-take c.args.col columns) in
    next-behind columns i _ c.loop-cell_type.rest.now c.after_cell-rest.result.now
    (cells_held columns c.args.bytes.now) within c.loop-cell_type.invariant
    (ap (λ (t : CellType). unread (cell_at t c.loop-cell_type.rest.now))
    (sym (get_or-take c.args.col columns i _ near)) ∙ c.after_cell-rest.ensures)
