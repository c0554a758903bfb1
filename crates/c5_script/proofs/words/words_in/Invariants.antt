use Rattle.std.proofs.Common.{◌≡◌, length}
use Rattle.c5_definitions.specs.Lines.{words_at, between}
use Rattle.c5_script.specs.Words.{held_words}
use Rattle.c5_script.specs.Reading.{with_words}
use Rattle.c5_script.proofs.words.words_in.Given as goal

-- the words of the line are those that are held and those of the rest
abbrev pub invariant-loop-rest : goal.invariant-loop-rest
invariant-loop-rest l = words_at between l.line
    ≡ with_words (held_words l.words.items) (words_at between l.rest)

abbrev pub decreases-loop-rest : goal.decreases-loop-rest
decreases-loop-rest l = length l.rest
