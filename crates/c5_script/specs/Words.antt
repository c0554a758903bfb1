-- The words of a line, as they are held.
use Rattle.std.specs.Prelude.{List, map}
use Rattle.c5_script.specs.declared.word.Word.{Word as HeldWord}
use Rattle.c5_script.specs.declared.word.Word.TheVariants.{Bare, Quoted}
use Rattle.c5_definitions.specs.Words.{Word, bare, quoted}

-- the word that is held
abbrev pub held_word : HeldWord → Word
held_word (Bare bytes) = bare bytes.now
held_word (Quoted text) = quoted text.now

-- the words that are held
abbrev pub held_words : List HeldWord → List Word
held_words words = map held_word words
