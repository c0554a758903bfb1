-- The lines of a script, and the words of a line.
use Rattle.std.specs.Prelude.{ℕ, zero, suc, ◌==◌, Bool, true, List, [], ◌∷◌, ◌++◌, Result, Ok, Err}
use Rattle.std.specs.Prelude.{if◌then◌else◌}
use Rattle.std.specs.List.{list_all, onto_first}
use Rattle.c5_rows.specs.Bytes.{is_between}
use Rattle.c5_definitions.specs.declared.script.ScriptKind.{ScriptKind}
use Rattle.c5_definitions.specs.declared.script.ScriptKind.TheVariants as kinds
use Rattle.c5_definitions.specs.Words.{Word, bare, quoted}

-- ---- lines

-- the lines of bytes: a line ends with the byte `0A`, which the last may lack
unfoldable pub lines_of : List ℕ → List (List ℕ)
lines_of [] = []
lines_of (byte ∷ bytes) = if byte == 10 then [] ∷ lines_of bytes
    else onto_first byte (lines_of bytes)

-- the bytes after so many lines
unfoldable pub after_lines : ℕ → List ℕ → List ℕ
after_lines zero bytes = bytes
after_lines (suc count) [] = []
after_lines (suc count) (byte ∷ bytes) = if byte == 10 then after_lines count bytes
    else after_lines (suc count) bytes

-- ---- words

-- a blank or a printable byte
abbrev pub is_line_byte : ℕ → Bool
is_line_byte = is_between 32 126

-- where a byte of a line is: between words, in a bare word or in a quoted text of which these
-- bytes have been read, or right after a quoted text
pub data LinePart : Type 0 where
  between : LinePart
  in_bare : List ℕ → LinePart
  in_quoted : List ℕ → LinePart
  after_quoted : LinePart

-- nothing or a blank comes
abbrev pub is_word_end : List ℕ → Bool
is_word_end [] = true
is_word_end (byte ∷ bytes) = byte == 32

-- a word, and then the others
abbrev pub with_word : Word → Result (List Word) ScriptKind → Result (List Word) ScriptKind
with_word word (Ok words) = Ok (word ∷ words)
with_word word (Err kind) = Err kind

-- the words that begin or end in these bytes, of which the first is at this place: blanks separate
-- them; a quote opens and closes a quoted text, which a blank or the end follows, and occurs
-- nowhere else
unfoldable pub words_at : LinePart → List ℕ → Result (List Word) ScriptKind
words_at between [] = Ok []
words_at between (byte ∷ bytes) =
    if byte == 32 then words_at between bytes
    else (if byte == 34 then words_at (in_quoted []) bytes
    else words_at (in_bare (byte ∷ [])) bytes)
words_at (in_bare come) [] = Ok (bare come ∷ [])
words_at (in_bare come) (byte ∷ bytes) =
    if byte == 32 then with_word (bare come) (words_at between bytes)
    else (if byte == 34 then Err kinds.Quote
    else words_at (in_bare (come ++ byte ∷ [])) bytes)
words_at (in_quoted come) [] = Err kinds.Quote
words_at (in_quoted come) (byte ∷ bytes) =
    if byte == 34 then with_word (quoted come) (words_at after_quoted bytes)
    else words_at (in_quoted (come ++ byte ∷ [])) bytes
words_at after_quoted [] = Ok []
words_at after_quoted (byte ∷ bytes) = if byte == 32 then words_at between bytes
    else Err kinds.Quote

-- the words of a line, or the first of its tests that fails: each byte is allowed, each quote is in
-- its place
unfoldable pub words_of : List ℕ → Result (List Word) ScriptKind
words_of line = if list_all is_line_byte line then words_at between line else Err kinds.Byte
