use Rattle.std.proofs.Common.{subst, sym, ap, ◌∙◌}
use Rattle.c5_order.proofs.WorkedTests.{cancel_asked, cancel_leaves}
use Rattle.c5_order.proofs.tests.cancels.Goals as goal

pub cancel-requires : goal.cancel-requires
cancel-requires c = cancel_asked c.args.order.now c.requires

pub returns : goal.returns
returns c = cancel_leaves c.args.order.now c.cancel.new.self c.requires c.cancel.ensures
