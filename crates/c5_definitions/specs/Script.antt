-- The script that bytes are, or their first fault.
use Rattle.std.specs.Prelude.{ℕ, ◌+◌, List, [], ◌∷◌, Result, Ok, Err, if◌then◌else◌}
use Rattle.c5_definitions.specs.declared.script.ScriptKind.{ScriptKind}
use Rattle.c5_definitions.specs.declared.script.ScriptKind.TheVariants as kinds
use Rattle.c5_definitions.specs.declared.script.ScriptFault.{ScriptFault}
use Rattle.c5_definitions.specs.Steps.{◌>>=◌}
use Rattle.c5_definitions.specs.ScriptParts.{ScriptParts}
use Rattle.c5_definitions.specs.ScriptSoFar.{ScriptSoFar, script_start, is_closed, parts_of}
use Rattle.c5_definitions.specs.Lines.{lines_of, after_lines, words_of}
use Rattle.c5_definitions.specs.Statements.{after_line, FrontLine, goes_on, log_follows}
use Rattle.c5_definitions.specs.Statements.{after_front_line}

-- the line of this number is faulty
abbrev pub fault_on : {A : Type 0} → ℕ → ScriptKind → Result A ScriptFault
fault_on number kind = Err (record { line = number; kind = kind })

-- what a line gave, or its fault
abbrev pub on_line : {A : Type 0} → ℕ → Result A ScriptKind → Result A ScriptFault
on_line number (Ok x) = Ok x
on_line number (Err kind) = fault_on number kind

-- what has been read after the line of this number
abbrev pub after_numbered : ℕ → ScriptSoFar → List ℕ → Result ScriptSoFar ScriptFault
after_numbered number s line = on_line number (words_of line >>= after_line s)

-- the script whose lines from this number on are these, or the first fault among them; what is
-- missing at the end is missing on the line after the last
unfoldable pub script_from : ℕ → ScriptSoFar → List (List ℕ) → Result ScriptParts ScriptFault
script_from number s [] = if is_closed s then Ok (parts_of s) else fault_on number kinds.Unclosed
script_from number s (line ∷ lines) = after_numbered number s line
    >>= λ next. script_from (number + 1) next lines

-- the script that bytes are, or their first fault
unfoldable pub script_of : List ℕ → Result ScriptParts ScriptFault
script_of bytes = script_from 1 script_start (lines_of bytes)

-- ---- a script that a log follows

-- the same when the line may end the script
abbrev pub after_front_numbered : ℕ → ScriptSoFar → List ℕ → Result FrontLine ScriptFault
after_front_numbered number s line = on_line number (words_of line >>= after_front_line s)

-- the script whose lines from this number on are these, up to the line that ends it, with the
-- number of that line; or the first fault among them, which on the line after the last is that no
-- line ends the script
unfoldable pub front_from : ℕ → ScriptSoFar → List (List ℕ) → Result (ScriptParts × ℕ) ScriptFault
front_from number s [] = fault_on number kinds.Unclosed
front_from number s (line ∷ lines) = after_front_numbered number s line >>= λ found. elim found [
  | goes_on next ↦ front_from (number + 1) next lines
  | log_follows ↦ Ok (parts_of s, number)
]

-- the script that bytes begin with, and the bytes after the line that ends it, or their first fault
unfoldable pub front_of : List ℕ → Result (ScriptParts × List ℕ) ScriptFault
front_of bytes = front_from 1 script_start (lines_of bytes)
    >>= λ front. Ok (front.0, after_lines front.1 bytes)
