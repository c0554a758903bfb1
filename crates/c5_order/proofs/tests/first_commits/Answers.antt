use Rattle.c5_order.proofs.WorkedTests.{first_asked, first_leaves}
use Rattle.c5_order.proofs.tests.first_commits.Goals as goal

pub commit-requires : goal.commit-requires
commit-requires g c =
    first_asked c.args.order.now c.in_ok-writes.writes c.requires c.in_ok-writes.ensures

pub returns : goal.returns
returns g c =
    first_leaves c.args.order.now c.commit.new.self c.in_ok-writes.writes c.in_ok-commit.field-0
    c.requires c.in_ok-writes.ensures c.in-Committed.is c.in_ok-commit.ensures.ok
