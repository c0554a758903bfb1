-- What a read block is answered.
use Rattle.std.specs.Prelude.{◌≡◌, ℕ, ℤ, pos, ◌+ℤ◌, List, [], ◌∷◌, map, length, take, drop, Option}
use Rattle.std.specs.Prelude.{Some, None}
use Rattle.std.specs.List.{flat_map}
use Rattle.std.specs.FinMap.{get}
use Rattle.c5_rows.specs.declared.cells.Cell.{Cell}
use Rattle.c5_rows.specs.declared.writes.RowName.{RowName}
use Rattle.c5_rows.specs.declared.answer.AnswerLine.{AnswerLine}
use Rattle.c5_rows.specs.declared.answer.AnswerLine.TheVariants.{Found, Absent, Sum}
use Rattle.c5_rows.specs.State.{State}
use Rattle.c5_definitions.specs.declared.script.ReadLine.{ReadLine}
use Rattle.c5_definitions.specs.declared.script.ReadLine.TheVariants.{OneRow, SumOf}
use Rattle.c5_definitions.specs.ScriptParts.{ReadParts}
use Rattle.c5_definitions.specs.Effects.{int_in_column}
use Rattle.c5_definitions.specs.Follows.{Read}

-- the names that keys have in a table
abbrev pub table_names : ℕ → List (List ℕ) → List RowName
table_names table keys = map (λ key. record { table = table; key = key }) keys

-- the names of the rows that a line asks for; a repeated key comes again
abbrev pub names_of_line : ReadLine → List RowName
names_of_line (OneRow name) = name ∷ []
names_of_line (SumOf table col keys) = table_names table keys

-- the names of the rows that a read block asks for, in order
abbrev pub asked_names : List ReadLine → List RowName
asked_names lines = flat_map names_of_line lines

-- the number, or 0 if there is none
abbrev pub or_zero : Option ℤ → ℤ
or_zero None = pos 0
or_zero (Some n) = n

-- the sum of a column over rows
abbrev pub sum_in : ℕ → List (Option (List Cell)) → ℤ
sum_in col [] = pos 0
sum_in col (row ∷ rows) = or_zero (int_in_column col row) +ℤ sum_in col rows

-- a row, or that it is absent
abbrev pub row_answer : RowName → Option (List Cell) → AnswerLine
row_answer name (Some row) = Found name row
row_answer name None = Absent name

-- the first of some rows
abbrev pub first_row : List (Option (List Cell)) → Option (List Cell)
first_row [] = None
first_row (row ∷ rows) = row

-- the answer to a line whose rows are these, in the order of its names
abbrev pub line_answer : ReadLine → List (Option (List Cell)) → AnswerLine
line_answer (OneRow name) rows = row_answer name (first_row rows)
line_answer (SumOf table col keys) rows = Sum (sum_in col rows)

-- the answer of a state: one line for each line of the read block
abbrev pub lines_from : List ReadLine → State → List AnswerLine
lines_from lines state = map (λ line. line_answer line (map (get state) (names_of_line line))) lines

-- the answer of a state to a read block
unfoldable pub answer_of : ReadParts → State → List AnswerLine
answer_of read state = lines_from read.lines state

-- the answer over answered reads, of which each line takes as many as it has names
abbrev pub lines_over : List ReadLine → List Read → List AnswerLine
lines_over [] reads = []
lines_over (line ∷ lines) reads =
    line_answer line (map (λ read. read.1) (take (length (names_of_line line)) reads))
    ∷ lines_over lines (drop (length (names_of_line line)) reads)

-- exactly the rows of the block were asked for, in order; answered so, this is its answer
pub record IsAnswered (lines : List ReadLine) (reads : List Read)
    (answer : List AnswerLine) : Type 0 where
  pub names : map (λ read. read.0) reads ≡ asked_names lines
  pub answers : answer ≡ lines_over lines reads
