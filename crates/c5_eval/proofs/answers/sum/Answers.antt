use Rattle.std.proofs.Common.{◌<◌, ◌++◌, [], ◌∷◌, ◌∙◌, rules, arith, FitsSigned, w64, to_z}
use Rattle.std.specs.Int.{w128}
use Rattle.std.proofs.lemmas.Int.{ints}
use Rattle.c5_rows.specs.declared.writes.RowName.{RowName}
use Rattle.c5_eval.proofs.Walks.{read_on}
use Rattle.c5_eval.proofs.Blocks.{names_on, sum_on, sum_fits}
use Rattle.c5_eval.proofs.answers.sum.Goals as goal

pub loop-key-preserved : goal.loop-key-preserved
loop-key-preserved g c =
    let before = c.loop-key.invariant in
    let taken = before.taken in
    let name : RowName = record { table = c.args.table; key = c.key-item.result } in
    let row = c.in_ok-row.row in
    let few : c.loop-key.key-index < 16 = omega arith in
    let fits : FitsSigned w64 c.number_or_zero.result = search rules in
    let whole =
    sum_fits (to_z w128 c.loop-key.sum-bits) c.number_or_zero.result c.loop-key.key-index few
    before.low before.high fits in
    record {
      taken = (
        taken.0 ++ (name, row) ∷ [],
        read_on _ taken.0 ((name, row) ∷ []) _ _ taken.1 c.in_ok-row.ensures.answered,
        names_on c.args.table c.args.keys.now c.loop-key.key-index c.key-item.result taken.0 row
            c.loop-key-test.true c.key-item.is taken.2,
        whole ∙ sum_on c.args.col
            (to_z w128 c.loop-key.sum-bits) c.number_or_zero.result taken.0 name row taken.3
            c.number_or_zero.ensures,
      );
      low = rw whole (omega (arith, ints));
      high = rw whole (omega (arith, ints));
      base = search rules;
      refusals = search rules;
    }
