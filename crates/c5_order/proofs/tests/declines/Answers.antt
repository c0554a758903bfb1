use Rattle.c5_order.proofs.WorkedTests.{decline_asked, decline_leaves}
use Rattle.c5_order.proofs.tests.declines.Goals as goal

pub commit-requires : goal.commit-requires
commit-requires g c = decline_asked c.args.order.now c.new-none.result c.requires c.new-none.ensures

pub returns : goal.returns
returns g c =
    decline_leaves c.args.order.now c.commit.new.self c.new-none.result c.in_ok-commit.field-0
    c.requires c.new-none.ensures c.in-Committed.is c.in_ok-commit.ensures.ok
