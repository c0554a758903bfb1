use Rattle.std.proofs.Common.{◌+◌, drop}
use Rattle.c5_definitions.specs.Answers.{names_of_line, asked_names}
use Rattle.c5_reads.proofs.LookLemmas.{only-then, only-board, looks-step}
use Rattle.c5_reads.proofs.AnswerLemmas.{rows-step, lines-left}
use Rattle.c5_reads.proofs.answering.load_lines.Goals as goal

pub loop-line-preserved : goal.loop-line-preserved
loop-line-preserved c =
    let left =
    lines-left c.args.lines.now c.loop-line.line-index c.line-item.result c.loop-line-test.true
    c.line-item.is in
    let step = names_of_line c.line-item.result in
    let rest = asked_names (drop (c.loop-line.line-index + 1) c.args.lines.now) in
    record {
      pass = only-then c.args.pass.now c.loop-line.pass c.load_line.new.pass
          c.loop-line.invariant.pass c.load_line.ensures.pass;
      looks = looks-step c.args.pass.now c.loop-line.pass c.load_line.new.pass _ _ step rest _ left
          (only-board c.loop-line.pass c.load_line.new.pass c.load_line.ensures.pass)
          c.loop-line.invariant.looks c.in_ok-load_line.ensures.looks;
      rows = rows-step _ c.loop-line.rows c.load_line.new.rows _ _ step rest left
          c.loop-line.invariant.rows c.in_ok-load_line.ensures.rows;
    }
