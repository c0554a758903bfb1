use borrow.Author.Tests.{eq-eqb, ne_eqb}
use Rattle.std.proofs.Common.{true, false, arith}
use Rattle.c5_driver.proofs.Figured.{declined-on}
use Rattle.c5_driver.proofs.figures.declined_in.Goals.{then-txn-eq0, else-txn-eq0}
use Rattle.c5_driver.proofs.figures.declined_in.Goals as goal

pub loop-p-preserved : goal.loop-p-preserved
loop-p-preserved c =
    let txns = c.args.log.now.txns in
    let before = c.loop-p.invariant in
    elim c.if-txn-eq0.branch [
      | then-txn-eq0 w ↦ record {
        counted = omega (
          arith,
          w.declined-is,
          declined-on txns c.loop-p.p _ c.loop-p.declined c.txn.result true (omega arith)
              c.txn.ensures.entry (eq-eqb _ _ w.if-txn-eq0.true) before.counted,
        );
        few = omega (arith, w.declined-is);
      }
      | else-txn-eq0 w ↦ record {
        counted = omega (
          arith,
          w.declined-is,
          declined-on txns c.loop-p.p _ c.loop-p.declined c.txn.result false (omega arith)
              c.txn.ensures.entry (ne_eqb _ _ w.if-txn-eq0.false) before.counted,
        );
        few = omega (arith, w.declined-is);
      }
    ]
