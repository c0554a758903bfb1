use Rattle.std.proofs.Common.{◌∙◌, ◌≤◌, ◌<◌, Err, ap, subst}
use Rattle.std.specs.Prelude.{option_map}
use Rattle.c5_rows.specs.Sizes.{max_rows}
use Rattle.c5_definitions.specs.WriteNumbers.{names_in, row_count}
use Rattle.c5_frames.specs.Log.{Log}
use Rattle.c5_driver.specs.declared.refusal.Refusal.TheVariants.{Limit}
use Rattle.c5_driver.proofs.Passed.{none-passed, rows-passed}
use Rattle.c5_driver.proofs.replaying.replay_log.Goals as goal

pub returns-in-Ok-replay_of-clause-within : goal.returns-in-Ok-replay_of-clause-within
returns-in-Ok-replay_of-clause-within g c =
    let is = c.in-Ok.ensures.planned in
    let few = subst (λ (l : Log). row_count (names_in l.txns) ≤ max_rows) c.in-Ok.ensures.value
    c.in-Ok-replay_of.ensures.few in
    none-passed c.args.log.now.txns is.transactions is.writes few

pub returns-in-Err-Rows-clause-refused : goal.returns-in-Err-Rows-clause-refused
returns-in-Err-Rows-clause-refused g c =
    let is = c.in-Ok.ensures.planned in
    let many = subst (λ (l : Log). max_rows < row_count (names_in l.txns)) c.in-Ok.ensures.value
    (c.replay_of.ensures.rows (c.in-Err-Rows.is ∙ ap Err c.in-Err-Rows.field-0-is)) in
    ap (option_map Limit) (rows-passed c.args.log.now.txns is.transactions is.writes many)
