use Rattle.std.proofs.Common.{◌≡◌, length, take, drop}
use Rattle.c5_definitions.specs.Places.{type_in, each_in}
use Rattle.c5_script.specs.Words.{held_words}
use Rattle.c5_script.proofs.Each.{with_front}
use Rattle.c5_script.proofs.lists.column_types.Given as goal

-- the types so far and those that are still read are those of all words
abbrev pub invariant-loop-column : goal.invariant-loop-column
invariant-loop-column l =
    record {
      eight : length l.types ≡ 8;
      reading : with_front (take l.column l.types)
          (each_in type_in (held_words (drop l.column l.words)))
          ≡ each_in type_in (held_words l.words);
    }
