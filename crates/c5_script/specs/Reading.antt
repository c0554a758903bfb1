-- What the steps of reading a line give.
use Rattle.std.specs.Prelude.{◌≡◌, ℕ, List, ◌++◌, Result, Ok, Err}
use Rattle.c5_definitions.specs.declared.script.ScriptKind.{ScriptKind}
use Rattle.c5_definitions.specs.Words.{Word}
use Rattle.c5_definitions.specs.Lines.{between, with_word, words_at}

-- words, and then the others
abbrev pub with_words : List Word → Result (List Word) ScriptKind → Result (List Word) ScriptKind
with_words front (Ok words) = Ok (front ++ words)
with_words front (Err kind) = Err kind

-- these are the word that was found and the words of the bytes after it; or they have the fault
abbrev pub FindsWord : {X : Type 0} → (X → Word) → (X → List ℕ) → Result (List Word) ScriptKind
    → Result X ScriptKind → Type 0
FindsWord word behind words (Ok x) = words ≡ with_word (word x) (words_at between (behind x))
FindsWord word behind words (Err kind) = words ≡ Err kind
