use Rattle.std.proofs.Common.{arith}
use Rattle.c5_gen.proofs.tests.money.Goals as goal

pub returns : goal.returns
returns c = (c.money_law.ensures 2 (omega arith)).after 1 (omega arith)
