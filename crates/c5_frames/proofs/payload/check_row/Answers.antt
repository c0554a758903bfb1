use Rattle.std.proofs.Common.{arith}
use Rattle.c5_frames.proofs.PayloadLemmas.{row-whole, row-left, row-fails}
use Rattle.c5_frames.proofs.payload.check_row.Goals as goal

pub returns-in-Ok-empty : goal.returns-in-Ok-empty
returns-in-Ok-empty c =
    row-whole c.args.columns.now c.args.bytes.now c.in-Ok-empty.field-0.now c.in-Ok-empty.ensures
    (omega arith)

pub returns-in-Ok : goal.returns-in-Ok
returns-in-Ok c = row-left c.args.columns.now c.args.bytes.now c.in-Ok.field-0.now c.in-Ok.ensures
    (omega arith)

pub returns-in-Err : goal.returns-in-Err
returns-in-Err c = row-fails c.args.columns.now c.args.bytes.now c.in-Err.kind c.in-Err.ensures
