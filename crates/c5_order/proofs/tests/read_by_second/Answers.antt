use Rattle.c5_order.proofs.WorkedTests.{both_are_begun, reads_second, read_adds}
use Rattle.c5_order.proofs.tests.read_by_second.Goals as goal

pub read-requires : goal.read-requires
read-requires g c = reads_second c.begin-2.new.order
    (both_are_begun _ _ _ _ _ _ c.requires c.new.ensures c.in_ok-order.ensures c.in_ok-begin.ensures
    c.in_ok-begin-2.ensures)

pub returns : goal.returns
returns g c = read_adds c.begin-2.new.order c.read.new.self c.in_ok-name.name
    (both_are_begun _ _ _ _ _ _ c.requires c.new.ensures c.in_ok-order.ensures c.in_ok-begin.ensures
    c.in_ok-begin-2.ensures) c.in_ok-name.ensures c.in_ok-row.ensures.ok
