use Rattle.std.proofs.Common.{◌+◌, List, [], ◌∷◌, drop}
use Rattle.c5_rows.specs.declared.writes.RowName.{RowName}
use Rattle.c5_definitions.specs.Answers.{table_names}
use Rattle.c5_reads.proofs.LookLemmas.{only-then, only-board, looks-step}
use Rattle.c5_reads.proofs.AnswerLemmas.{rows-step, keys-left}
use Rattle.c5_reads.proofs.answering.load_keys.Goals as goal

pub loop-key-preserved : goal.loop-key-preserved
loop-key-preserved c =
    let left =
    keys-left c.args.table c.args.keys.now c.loop-key.key-index c.key-item.result
    c.loop-key-test.true c.key-item.is in
    let step : List RowName = record { table = c.args.table; key = c.key-item.result } ∷ [] in
    let rest = table_names c.args.table (drop (c.loop-key.key-index + 1) c.args.keys.now) in
    record {
      pass = only-then c.args.pass.now c.loop-key.pass c.load_row.new.pass c.loop-key.invariant.pass
          c.load_row.ensures.pass;
      looks = looks-step c.args.pass.now c.loop-key.pass c.load_row.new.pass _ _ step rest _ left
          (only-board c.loop-key.pass c.load_row.new.pass c.load_row.ensures.pass)
          c.loop-key.invariant.looks c.load_row.ensures.looks;
      rows = rows-step _ c.loop-key.rows c.load_row.new.rows _ _ step rest left
          c.loop-key.invariant.rows c.in_ok-load_row.ensures.rows;
    }
