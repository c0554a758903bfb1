use Rattle.std.specs.FinMap.{empty}
use Rattle.c5_rows.specs.State.{State}
use Rattle.c5_driver.proofs.Passed.{within-limits, run-within}
use Rattle.c5_driver.proofs.logs.know_run.Goals as goal

pub returns-clause-log : goal.returns-clause-log
returns-clause-log c =
    let script = c.args.script.now in
    let none : State = empty in
    c.serial_run_law.ensures.runs script none c.args.txns.now c.schema-schema.ensures.script
    (within-limits script c.requires.within)
    (c.serial_run_law.ensures.no_rows script.tables) c.requires.run

pub returns-clause-limits : goal.returns-clause-limits
returns-clause-limits c =
    let limits = within-limits c.args.script.now c.requires.within in
    run-within c.args.script.now c.args.txns.now limits (returns-clause-log c)
