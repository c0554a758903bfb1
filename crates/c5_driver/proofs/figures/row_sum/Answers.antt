use Rattle.std.proofs.Common.{◌<◌, ◌∙◌, ap, length, rules, arith, FitsSigned, w64, to_z}
use Rattle.std.specs.Int.{w128}
use Rattle.std.proofs.lemmas.Int.{ints}
use Rattle.c5_driver.proofs.Figured.{cells-on, cell-fits}
use Rattle.c5_driver.proofs.figures.row_sum.Goals as goal

pub loop-cell-preserved : goal.loop-cell-preserved
loop-cell-preserved c =
    let before = c.loop-cell.invariant in
    let few : c.loop-cell.cell-index < 8 =
    omega (arith, c.cells-cell-items.ensures.few, ap length c.cells-cell-items.ensures.value) in
    let fits : FitsSigned w64 c.number_in.result = search rules in
    let whole =
    cell-fits (to_z w128 c.loop-cell.sum-bits) c.number_in.result c.loop-cell.cell-index few
    before.low before.high fits in
    record {
      summed =
          rw whole
          (cells-on c.cells-cell-items.result.now c.loop-cell.cell-index c.cell-item.result
          (to_z w128 c.loop-cell.sum-bits) c.number_in.result c.loop-cell-test.true c.cell-item.is
          c.number_in.ensures ∙ before.summed);
      low = rw whole (omega (arith, ints));
      high = rw whole (omega (arith, ints));
      items = before.items;
    }
