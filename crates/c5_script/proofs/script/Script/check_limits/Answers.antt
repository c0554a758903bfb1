use Rattle.std.proofs.Common.{◌≤◌, ◌<◌, length, arith}
use Rattle.c5_rows.specs.Sizes.{max_transactions, max_writes, max_rows}
use Rattle.c5_definitions.specs.Limits.{write_statements, written_row_count}
use Rattle.c5_script.proofs.Different.{within-few, within-names}
use Rattle.c5_script.proofs.Excesses.{no-excess, too-many-transactions, too-many-writes}
use Rattle.c5_script.proofs.Excesses.{too-many-rows}
use Rattle.c5_script.proofs.script.Script.check_limits.Goals as goal

pub returns-then-bodies-gt-MAX_TRANSACTIONS : goal.returns-then-bodies-gt-MAX_TRANSACTIONS
returns-then-bodies-gt-MAX_TRANSACTIONS c =
    too-many-transactions c.args.self.now c.bodies-bodies.result.now c.bodies-bodies.ensures.value
    c.if-bodies-gt-MAX_TRANSACTIONS.true

pub returns-then-count-gt-MAX_WRITES : goal.returns-then-count-gt-MAX_WRITES
returns-then-count-gt-MAX_WRITES c =
    let bodies = c.bodies-bodies.result.now in
    let few : length bodies ≤ max_transactions =
    omega (arith, c.if-bodies-gt-MAX_TRANSACTIONS.false) in
    let more : max_writes < write_statements bodies =
    omega (arith, c.if-count-gt-MAX_WRITES.true, c.writes_in-count.ensures) in
    too-many-writes c.args.self.now bodies c.bodies-bodies.ensures.value few more

pub returns-then-count-le-MAX_ROWS : goal.returns-then-count-le-MAX_ROWS
returns-then-count-le-MAX_ROWS c =
    no-excess c.args.self.now c.bodies-bodies.result.now c.bodies-bodies.ensures.value
    (within-few c.bodies-bodies.result.now c.writes_in-count.result c.writes_in-count.ensures
    c.if-bodies-gt-MAX_TRANSACTIONS.false c.if-count-le-MAX_ROWS.true)

pub returns-then-len-le-MAX_ROWS : goal.returns-then-len-le-MAX_ROWS
returns-then-len-le-MAX_ROWS c =
    let few : length c.in_ok-names.names.items ≤ max_rows = omega arith in
    no-excess c.args.self.now c.bodies-bodies.result.now c.bodies-bodies.ensures.value
    (within-names c.bodies-bodies.result.now c.writes_in-count.result c.in_ok-names.names.items
    c.writes_in-count.ensures c.if-bodies-gt-MAX_TRANSACTIONS.false
    c.if-count-gt-MAX_WRITES.false few c.in_ok-names.ensures)

pub returns-then-different-gt-MAX_ROWS : goal.returns-then-different-gt-MAX_ROWS
returns-then-different-gt-MAX_ROWS c =
    let bodies = c.bodies-bodies.result.now in
    let few : length bodies ≤ max_transactions =
    omega (arith, c.if-bodies-gt-MAX_TRANSACTIONS.false) in
    let writes : write_statements bodies ≤ max_writes =
    omega (arith, c.if-count-gt-MAX_WRITES.false, c.writes_in-count.ensures) in
    let more : max_rows < written_row_count bodies =
    omega (
      arith,
      c.if-different-gt-MAX_ROWS.true,
      c.different.ensures _ c.in_ok-names.ensures,
    ) in
    too-many-rows c.args.self.now bodies c.bodies-bodies.ensures.value few writes more

pub returns : goal.returns
returns c =
    let bodies = c.bodies-bodies.result.now in
    no-excess c.args.self.now bodies c.bodies-bodies.ensures.value (record {
      transactions = omega (arith, c.if-bodies-gt-MAX_TRANSACTIONS.false);
      writes = omega (arith, c.if-count-gt-MAX_WRITES.false, c.writes_in-count.ensures);
      rows = omega (
        arith,
        c.if-different-gt-MAX_ROWS.false,
        c.different.ensures _ c.in_ok-names.ensures,
      );
    })
