use Rattle.std.proofs.Common.{◌<◌, arith}
use Rattle.c5_definitions.specs.WriteNumbers.{names_in}
use Rattle.c5_definitions.specs.WriteNumbers.{row_count}
use Rattle.c5_plan.proofs.Noting.{row_count-le, at_none}
use Rattle.c5_plan.proofs.written.count_rows.Goals as goal

pub unreachable-requires : goal.unreachable-requires
unreachable-requires c =
    let many : c.writes.result < row_count (names_in c.args.log.now.txns) =
    at_none _ _ _ c.in-Ok-None.field-0-is c.in-Ok-None.ensures in
    omega (arith, row_count-le c.args.log.now.txns)
