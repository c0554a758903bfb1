-- How lines and the words of a line are written.
use Rattle.std.specs.Prelude.{◌≡◌, ◌≤◌, ◌==◌, ℕ, not, IsTrue, List, [], ◌∷◌, ◌++◌, length}
use Rattle.std.specs.List.{list_all, flat_map}
use Rattle.c5_rows.specs.Bytes.{is_key_byte, is_text_byte}
use Rattle.c5_definitions.specs.Words.{Word, bare, quoted}
use Rattle.c5_definitions.specs.Lines.{is_word_end}

-- no line end
abbrev pub IsLine : List ℕ → Type 0
IsLine bytes = IsTrue (list_all (λ byte. not (byte == 10)) bytes)

-- lines that each end with a line end
abbrev pub ended_lines : List (List ℕ) → List ℕ
ended_lines lines = flat_map (λ line. line ++ 10 ∷ []) lines

-- blanks and nothing else
abbrev pub IsBlank : List ℕ → Type 0
IsBlank bytes = IsTrue (list_all (λ byte. byte == 32) bytes)

-- a bare word has a byte, and no blanks and quotes; a text has no quotes
abbrev pub IsWord : Word → Type 0
IsWord (bare bytes) = (1 ≤ length bytes) × IsTrue (list_all is_key_byte bytes)
IsWord (quoted text) = IsTrue (list_all is_text_byte text)

-- the bytes of a word; a text is between two quotes
abbrev pub spelled_word : Word → List ℕ
spelled_word (bare bytes) = bytes
spelled_word (quoted text) = 34 ∷ text ++ 34 ∷ []

-- blanks, a word that the line's end or a blank follows, and then the other words; blanks after
-- the last
unfoldable pub IsLineOf : List Word → List ℕ → Type 0
IsLineOf [] line = IsBlank line
IsLineOf (word ∷ words) line =
    (blanks : List ℕ) × (rest : List ℕ) × IsBlank blanks × IsWord word × IsTrue (is_word_end rest)
    × (line ≡ blanks ++ (spelled_word word ++ rest)) × IsLineOf words rest
