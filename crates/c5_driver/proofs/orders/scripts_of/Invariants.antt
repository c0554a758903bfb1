use Rattle.std.proofs.Common.{◌≡◌, ◌++◌, drop}
use Rattle.c5_definitions.specs.SerialRun.{script_numbers}
use Rattle.c5_driver.proofs.orders.scripts_of.Given as goal

-- what was added, and what is left to add
abbrev pub invariant-loop-txn : goal.invariant-loop-txn
invariant-loop-txn l = l.scripts.items ++ script_numbers (drop l.txn-index l.fn.txns)
    ≡ script_numbers l.fn.txns
