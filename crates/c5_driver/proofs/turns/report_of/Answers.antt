use Rattle.std.proofs.Common.{◌∙◌, Err, ap, arith}
use Rattle.c5_definitions.specs.WriteNumbers.{names_in, row_count}
use Rattle.c5_frames.specs.Log.{Log}
use Rattle.c5_driver.proofs.Passed.{few-rows}
use Rattle.c5_driver.proofs.turns.report_of.Goals as goal

pub unreachable-requires-in-Err-Rows : goal.unreachable-requires-in-Err-Rows
unreachable-requires-in-Err-Rows c =
    let rows = ap (λ (l : Log). row_count (names_in l.txns)) c.in-Ok.ensures.value in
    let many = c.replay_turns.ensures.rows (c.in-Err-Rows.is ∙ ap Err c.in-Err-Rows.field-0-is) in
    let few = few-rows c.args.log.now.txns c.requires.limits in
    omega arith
