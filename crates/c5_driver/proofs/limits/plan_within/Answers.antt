use Rattle.std.proofs.Common.{◌∙◌, sym, ap, Err}
use Rattle.c5_driver.proofs.Passed.{planned-passed}
use Rattle.c5_plan.specs.declared.plans.PlanFault.TheVariants as faults
use Rattle.c5_driver.proofs.limits.plan_within.Goals as goal

pub returns-in-Err-Transactions-clause-passed : goal.returns-in-Err-Transactions-clause-passed
returns-in-Err-Transactions-clause-passed c =
    planned-passed c.args.log.now faults.Transactions
    (sym c.plan.ensures ∙ c.in-Err-Transactions.is ∙ ap Err c.in-Err-Transactions.field-0-is)

pub returns-in-Err-Writes-clause-passed : goal.returns-in-Err-Writes-clause-passed
returns-in-Err-Writes-clause-passed c =
    planned-passed c.args.log.now faults.Writes
    (sym c.plan.ensures ∙ c.in-Err-Writes.is ∙ ap Err c.in-Err-Writes.field-0-is)
