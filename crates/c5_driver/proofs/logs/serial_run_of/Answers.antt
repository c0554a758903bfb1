use Rattle.c5_driver.proofs.Passed.{within-limits}
use Rattle.c5_driver.proofs.logs.serial_run_of.Goals as goal

pub run_serial-requires : goal.run_serial-requires
run_serial-requires c =
    (within-limits c.args.script.now c.requires.within).transactions
