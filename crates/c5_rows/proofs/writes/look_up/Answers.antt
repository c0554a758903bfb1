use Rattle.std.proofs.Common.{sym}
use Rattle.c5_rows.proofs.WriteLemmas.{change_of-found, change_of-gap}
use Rattle.c5_rows.proofs.writes.look_up.Goals as goal

pub returns-in-Ok : goal.returns-in-Ok
returns-in-Ok c =
    sym (change_of-found c.args.name.now c.args.writes.now c.in-Ok.at c.index-writes-at.result
    c.requires c.in-Ok.ensures.bound c.in-Ok.ensures.place)

pub returns-in-Err : goal.returns-in-Err
returns-in-Err c =
    sym (change_of-gap c.args.name.now c.args.writes.now c.in-Err.field-0 c.in-Err.ensures.bound
    c.in-Err.ensures.place.0 c.in-Err.ensures.place.1)
