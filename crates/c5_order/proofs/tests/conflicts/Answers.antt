use Rattle.c5_order.proofs.WorkedTests.{conflict_asked, conflict_keeps}
use Rattle.c5_order.proofs.tests.conflicts.Goals as goal

pub commit-requires : goal.commit-requires
commit-requires g c =
    conflict_asked c.args.order.now c.in_ok-writes.writes c.requires c.in_ok-writes.ensures

pub returns : goal.returns
returns g c = let asked =
    conflict_asked c.args.order.now c.in_ok-writes.writes c.requires c.in_ok-writes.ensures in
    conflict_keeps c.args.order.now c.commit.new.self 1 c.in_ok-writes.writes c.in_ok-row.field-0
    c.in-Conflict.row c.in-Conflict.reader c.in-Conflict.is
    (asked.0, asked.1, asked.2) c.in_ok-row.ensures.ok
