use Rattle.c5_frames.specs.Refs.{cells_held}
use Rattle.c5_frames.proofs.RefLemmas.{next-cell, next-read, get-at}
use Rattle.c5_frames.proofs.cells.cell_in.Goals as goal

pub first_cell-requires : goal.first_cell-requires
first_cell-requires c =
    let n = next-cell c.args.columns.now c.args.col _ c.cells_from-rest.result.now
    (cells_held c.args.columns.now c.args.bytes.now) c.requires.column c.cells_from-rest.ensures
    in
    ((n.cell, n.after), n.read)

pub returns : goal.returns
returns c =
    let cells = cells_held c.args.columns.now c.args.bytes.now in
    let n = next-read c.args.columns.now c.args.col _ c.cells_from-rest.result.now
    c.first_cell.result.1.now c.first_cell.result.0 cells c.requires.column
    c.cells_from-rest.ensures c.first_cell.ensures in
    get-at cells c.args.col c.first_cell.result.0 _ n.0
