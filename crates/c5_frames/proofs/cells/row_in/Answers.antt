use Rattle.std.proofs.Common.{◌∙◌, ◌∷◌, ◌++◌, [], List, sym, ap, arith, take_all}
use Rattle.c5_rows.specs.declared.cells.Cell.{Cell}
use Rattle.c5_frames.specs.Refs.{cells_held}
use Rattle.c5_frames.proofs.RefLemmas.{row-length, row-start, next-cell, next-read, take-next}
use Rattle.c5_frames.proofs.cells.row_in.Goals as goal

pub first_cell-first-requires : goal.first_cell-first-requires
first_cell-first-requires c =
    let columns = c.args.columns.now in
    let bytes = c.args.bytes.now in
    let n = next-cell columns 0 _ bytes (cells_held columns bytes) c.requires.some
    (row-start columns bytes c.requires.row) in
    ((n.cell, n.after), n.read)

pub loop-column-init : goal.loop-column-init
loop-column-init c =
    let columns = c.args.columns.now in
    let bytes = c.args.bytes.now in
    let total = cells_held columns bytes in
    let cell = c.first_cell-first.result.0 in
    let n = next-read columns 0 _ bytes c.first_cell-first.result.1.now cell total c.requires.some
    (row-start columns bytes c.requires.row) c.first_cell-first.ensures in
    record {
      some = omega arith;
      left = n.1;
      built = c.one-row.ensures ∙ sym (take-next total 0 cell _ n.0);
    }

pub first_cell-cell-requires : goal.first_cell-cell-requires
first_cell-cell-requires c =
    let n = next-cell c.args.columns.now c.loop-column.column _ c.loop-column.rest.now
    (cells_held c.args.columns.now c.args.bytes.now) c.loop-column-test.true
    c.loop-column.invariant.left in
    ((n.cell, n.after), n.read)

pub loop-column-preserved : goal.loop-column-preserved
loop-column-preserved c =
    let total = cells_held c.args.columns.now c.args.bytes.now in
    let i = c.loop-column.column in
    let cell = c.first_cell-cell.result.0 in
    let so_far = c.loop-column.invariant in
    let n = next-read c.args.columns.now i _ c.loop-column.rest.now c.first_cell-cell.result.1.now
    cell total c.loop-column-test.true so_far.left c.first_cell-cell.ensures in
    record {
      some = omega arith;
      left = n.1;
      built = c.push.ensures ∙ ap (λ (front : List Cell). front ++ cell ∷ []) so_far.built ∙ sym
          (take-next total i cell _ n.0);
    }

pub returns : goal.returns
returns c =
    let total = cells_held c.args.columns.now c.args.bytes.now in
    let size = row-length c.args.columns.now c.args.bytes.now c.requires.row in
    c.loop-column.invariant.built ∙ take_all c.loop-column.column total (omega (arith, size))
