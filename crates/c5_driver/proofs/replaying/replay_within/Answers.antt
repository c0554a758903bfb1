use Rattle.std.proofs.Common.{◌∙◌, Err, ap, arith}
use Rattle.c5_definitions.specs.WriteNumbers.{names_in, row_count}
use Rattle.c5_frames.specs.Log.{Log}
use Rattle.c5_driver.proofs.Passed.{few-rows}
use Rattle.c5_driver.proofs.replaying.replay_within.Goals as goal

pub unreachable-requires-in-Err-Rows : goal.unreachable-requires-in-Err-Rows
unreachable-requires-in-Err-Rows g c =
    let same = ap (λ (l : Log). row_count (names_in l.txns)) c.in-Ok.ensures.value in
    let many = c.replay_of.ensures.rows (c.in-Err-Rows.is ∙ ap Err c.in-Err-Rows.field-0-is) in
    let few = few-rows c.args.log.now.txns c.requires.limits in
    omega arith
