use Rattle.std.proofs.Common.{◌≡◌, drop}
use Rattle.c5_rows.specs.State.{state_after}
use Rattle.c5_definitions.specs.Answers.{table_names}
use Rattle.c5_board.specs.Boards.{Pass}
use Rattle.c5_reads.specs.Looks.{OnlyLooks, LooksForNames}
use Rattle.c5_reads.specs.Reading.{with_rows}
use Rattle.c5_reads.proofs.answering.load_keys.Given as goal

-- what is done for the keys that are left makes all that is to be done
abbrev pub invariant-loop-key : goal.invariant-loop-key
invariant-loop-key l = record {
  pass : OnlyLooks l.fn.pass l.pass;
  looks : (new : Pass) → LooksForNames l.pass new
      (table_names l.table (drop l.key-index l.keys)) l.origin.place
      → LooksForNames l.fn.pass new (table_names l.table l.keys) l.origin.place;
  rows : with_rows (state_after l.origin.start.now l.board.log.txns l.origin.place)
      (table_names l.table (drop l.key-index l.keys)) l.rows
      ≡ with_rows (state_after l.origin.start.now l.board.log.txns l.origin.place)
      (table_names l.table l.keys) l.fn.rows;
}
