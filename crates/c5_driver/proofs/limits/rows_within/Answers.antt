use Rattle.std.proofs.Common.{ap, refl}
use Rattle.std.specs.Prelude.{option_map}
use Rattle.c5_rows.specs.Sizes.{max_rows}
use Rattle.c5_definitions.specs.WriteNumbers.{names_in}
use Rattle.c5_definitions.specs.WriteNumbers.{row_count}
use Rattle.c5_driver.specs.declared.refusal.Refusal.TheVariants.{Limit}
use Rattle.c5_driver.proofs.Passed.{none-passed, rows-passed, not-too-many}
use Rattle.c5_driver.proofs.limits.rows_within.Goals as goal

pub returns-in-Ok-Some-clause-within : goal.returns-in-Ok-Some-clause-within
returns-in-Ok-Some-clause-within c =
    let is = c.in-Ok.ensures.planned in
    none-passed c.args.log.now.txns is.transactions is.writes
    (not-too-many c.in-Ok-Some.field-0 c.in-Ok-Some.rows max_rows
    (row_count (names_in c.args.log.now.txns)) c.in-Ok-Some.ensures.too_many
    c.in-Ok-Some.field-0-is)

pub returns-in-Ok-None-clause-refused : goal.returns-in-Ok-None-clause-refused
returns-in-Ok-None-clause-refused c =
    let is = c.in-Ok.ensures.planned in
    ap (option_map Limit)
    (rows-passed c.args.log.now.txns is.transactions is.writes
    (c.in-Ok-None.ensures.too_many.0 (rw c.in-Ok-None.field-0-is refl)))
