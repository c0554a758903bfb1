use Rattle.c5_driver.proofs.Passed.{within-limits}
use Rattle.c5_driver.proofs.logs.run_of.Goals as goal

pub run-requires-clause-few : goal.run-requires-clause-few
run-requires-clause-few g c κs within =
    (within-limits c.args.script.now c.requires.within).transactions
