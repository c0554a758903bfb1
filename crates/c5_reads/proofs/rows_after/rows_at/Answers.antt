use Rattle.std.proofs.Common.{◌∙◌, ap, arith}
use Rattle.c5_definitions.specs.WriteNumbers.{end_of}
use Rattle.c5_frames.specs.Log.{Log}
use Rattle.c5_board.specs.Boards.{Board}
use Rattle.c5_reads.proofs.LookLemmas.{only-then, only-board, writes-then, writes-all}
use Rattle.c5_reads.proofs.FillLemmas.{filled-all}
use Rattle.c5_reads.proofs.rows_after.rows_at.Goals as goal

pub returns-clause-rows : goal.returns-clause-rows
returns-clause-rows c =
    let end = c.end-before-end.ensures ∙ ap
    (λ (l : Log). end_of l.txns c.args.place) c.plan.ensures.log in
    filled-all _ _ _ c.loop-before.rows c.loop-before.before c.loop-before.invariant.filled
    (λ name later.
    (c.last_write_law.ensures c.args.start.now c.args.board.now.log.txns c.args.place).unwritten
    name
    (λ w is at. let h = later w is at in let t = c.loop-before-test.false in omega arith))

pub loop-before-preserved : goal.loop-before-preserved
loop-before-preserved c = record {
  pass = only-then c.args.pass.now c.loop-before.pass c.fill.new.pass c.loop-before.invariant.pass
      c.fill.ensures.pass;
  looks = writes-then c.args.pass.now c.loop-before.pass c.fill.new.pass c.loop-before.before _
      (omega arith)
      (only-board c.args.pass.now c.loop-before.pass c.loop-before.invariant.pass)
      c.loop-before.invariant.looks c.fill.ensures.looks;
  filled = c.in_ok-fill.ensures.filled;
}

pub returns-clause-looks : goal.returns-clause-looks
returns-clause-looks c =
    let end = c.end-before-end.ensures ∙ ap
    (λ (l : Log). end_of l.txns c.args.place) c.plan.ensures.log in
    let here = ap (λ (b : Board). end_of b.log.txns c.args.place) c.requires.pass in
    writes-all c.args.pass.now c.loop-before.pass c.loop-before.before c.args.place
    (let t = c.loop-before-test.false in let u = c.loop-before.auto.before-end in
    omega arith) c.loop-before.invariant.looks
