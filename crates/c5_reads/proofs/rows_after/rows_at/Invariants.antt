use Rattle.c5_rows.specs.State.{state_after}
use Rattle.c5_board.specs.Boards.{names}
use Rattle.c5_reads.specs.Looks.{OnlyLooks}
use Rattle.c5_reads.specs.Filling.{IsFilled, LooksForWrites}
use Rattle.c5_reads.proofs.rows_after.rows_at.Given as goal

abbrev pub invariant-loop-before : goal.invariant-loop-before
invariant-loop-before l = record {
  pass : OnlyLooks l.fn.pass l.pass;
  looks : LooksForWrites l.fn.pass l.pass l.before;
  filled : IsFilled (names l.board) l.start
      (state_after l.start l.board.log.txns l.place) l.rows l.before;
}
