use Rattle.c5_order.proofs.WorkedTests.{both_are_begun, second_asked, second_leaves}
use Rattle.c5_order.proofs.tests.second_commits.Goals as goal

pub commit-requires : goal.commit-requires
commit-requires g c = second_asked c.begin-2.new.order c.in_ok-writes.writes
    (both_are_begun _ _ _ _ _ _ c.requires c.new.ensures c.in_ok-order.ensures c.in_ok-begin.ensures
    c.in_ok-begin-2.ensures) c.in_ok-writes.ensures

pub returns : goal.returns
returns g c =
    second_leaves c.begin-2.new.order c.commit.new.self c.in_ok-writes.writes c.in_ok-commit.field-0
    (both_are_begun _ _ _ _ _ _ c.requires c.new.ensures c.in_ok-order.ensures c.in_ok-begin.ensures
    c.in_ok-begin-2.ensures) c.in_ok-writes.ensures c.in-Committed.is c.in_ok-commit.ensures.ok
