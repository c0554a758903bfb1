use Rattle.std.proofs.Common.{◌<◌, ◌∙◌, arith, to_z}
use Rattle.std.specs.Int.{w128}
use Rattle.std.proofs.lemmas.Int.{ints}
use Rattle.c5_driver.proofs.Figured.{rows-on, row-fits}
use Rattle.c5_driver.proofs.figures.rows_sum.Goals as goal

pub loop-entry-preserved : goal.loop-entry-preserved
loop-entry-preserved c =
    let before = c.loop-entry.invariant in
    let sum = to_z w128 c.loop-entry.sum-bits in
    let few : c.loop-entry.entry-index < 65536 = omega arith in
    let whole =
    row-fits sum c.row_sum-sum.result c.loop-entry.entry-index few before.low before.high
    c.row_sum-sum.ensures.low c.row_sum-sum.ensures.high in
    record {
      summed =
          rw whole
          (rows-on c.args.entries.now c.loop-entry.entry-index c.entry-item.result sum
          c.row_sum-sum.result c.loop-entry-test.true c.entry-item.is c.row_sum-sum.ensures.value
          ∙ before.summed);
      low = rw whole (omega (arith, ints));
      high = rw whole (omega (arith, ints));
    }
