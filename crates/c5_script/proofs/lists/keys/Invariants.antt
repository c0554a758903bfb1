use Rattle.std.proofs.Common.{◌≡◌, ◌+◌, ◌∷◌, length, drop}
use Rattle.c5_definitions.specs.Places.{key_in, each_in}
use Rattle.c5_script.specs.Words.{held_word, held_words}
use Rattle.c5_script.proofs.Each.{with_front}
use Rattle.c5_script.proofs.lists.keys.Given as goal

-- the keys so far and those that are still read are those of all words
abbrev pub invariant-loop-word : goal.invariant-loop-word
invariant-loop-word l =
    record {
      room : length l.keys ≡ l.word-index + 1;
      reading : with_front l.keys (each_in key_in (held_words (drop l.word-index l.others)))
          ≡ each_in key_in (held_word l.fn.first ∷ held_words l.others);
    }
