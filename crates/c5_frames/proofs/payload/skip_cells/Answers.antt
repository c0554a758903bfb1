use Rattle.c5_frames.proofs.PayloadLemmas.{cells-more, cells-fail, cells-all}
use Rattle.c5_frames.proofs.payload.skip_cells.Goals as goal

pub returns-in-Err : goal.returns-in-Err
returns-in-Err c =
    cells-fail c.args.columns.now c.loop-cell_type.cell_type-index _ c.loop-cell_type.rest.now
    c.in-Err.kind _ c.loop-cell_type-test.true c.in-Err.ensures c.loop-cell_type.invariant

pub loop-cell_type-preserved : goal.loop-cell_type-preserved
loop-cell_type-preserved c =
    cells-more c.args.columns.now c.loop-cell_type.cell_type-index _ c.loop-cell_type.rest.now
    c.in-Ok.after.now _ c.loop-cell_type-test.true c.in-Ok.ensures c.loop-cell_type.invariant

pub returns : goal.returns
returns c =
    cells-all c.args.columns.now c.loop-cell_type.cell_type-index c.loop-cell_type.rest.now _
    c.loop-cell_type-test.false c.loop-cell_type.invariant
