use Rattle.std.proofs.Common.{◌≡◌, ◌≤◌, ◌+◌, drop, length}
use Rattle.c5_rows.specs.Sizes.{max_turn_words}
use Rattle.c5_definitions.specs.Places.{turn_in, each_in}
use Rattle.c5_script.specs.Partial.{with_turns}
use Rattle.c5_script.specs.Words.{held_words}
use Rattle.c5_script.proofs.headings.push_turns.Given as goal

-- what is left is added to what has been added, and there is room for it
abbrev pub invariant-loop-word : goal.invariant-loop-word
invariant-loop-word l =
    (with_turns l.script (each_in turn_in (held_words (drop l.word-index l.words)))
    ≡ with_turns l.initial.script (each_in turn_in (held_words l.words)))
    × (length l.script.turns + length l.words ≤ max_turn_words + l.word-index)
