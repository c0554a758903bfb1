-- Which logs can be planned.
use Rattle.std.specs.Prelude.{length, nat_lt, Result, Ok, Err, if◌then◌else◌}
use Rattle.c5_definitions.specs.WriteNumbers.{names_in}
use Rattle.c5_frames.specs.Log.{Log}
use Rattle.c5_plan.specs.declared.plans.PlanFault.{PlanFault}
use Rattle.c5_plan.specs.declared.plans.PlanFault.TheVariants.{Transactions, Writes}
use Rattle.c5_rows.specs.Sizes.{max_transactions, max_writes}

-- the log, or which limit it passes: transactions first
abbrev pub planned : Log → Result Log PlanFault
planned log =
    if nat_lt max_transactions (length log.txns) then Err Transactions
    else (if nat_lt max_writes (length (names_in log.txns)) then Err Writes
    else Ok log)
