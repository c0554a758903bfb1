use Rattle.std.proofs.Common.{◌≡◌, length, drop}
use Rattle.c5_definitions.specs.Places.{cells_in}
use Rattle.c5_script.specs.Words.{held_words}
use Rattle.c5_script.proofs.Each.{with_front}
use Rattle.c5_script.proofs.lists.read_row.Given as goal

-- the cells so far and those that are still read are those of all words
abbrev pub invariant-loop-column : goal.invariant-loop-column
invariant-loop-column l =
    record {
      count : length l.row ≡ l.column;
      reading : with_front l.row
          (cells_in (drop l.column l.columns) (held_words (drop l.column l.words)))
          ≡ cells_in l.columns (held_words l.words);
    }
