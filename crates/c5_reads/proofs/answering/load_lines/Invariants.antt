use Rattle.std.proofs.Common.{◌≡◌, drop}
use Rattle.std.specs.FinMap.{empty}
use Rattle.c5_rows.specs.State.{state_after}
use Rattle.c5_definitions.specs.Answers.{asked_names}
use Rattle.c5_board.specs.Boards.{Pass}
use Rattle.c5_reads.specs.Looks.{OnlyLooks, LooksForNames}
use Rattle.c5_reads.specs.Reading.{with_rows}
use Rattle.c5_reads.proofs.answering.load_lines.Given as goal

-- what is done for the lines that are left makes all that is to be done
abbrev pub invariant-loop-line : goal.invariant-loop-line
invariant-loop-line l = record {
  pass : OnlyLooks l.fn.pass l.pass;
  looks : (new : Pass) → LooksForNames l.pass new
      (asked_names (drop l.line-index l.lines)) l.origin.place
      → LooksForNames l.fn.pass new (asked_names l.lines) l.origin.place;
  rows : with_rows (state_after l.origin.start.now l.board.log.txns l.origin.place)
      (asked_names (drop l.line-index l.lines)) l.rows
      ≡ with_rows (state_after l.origin.start.now l.board.log.txns l.origin.place)
      (asked_names l.lines) empty;
}
