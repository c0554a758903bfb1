-- The test of a word by its place on the line.
use Rattle.std.specs.Prelude.{ℕ, ℤ, ◌-◌, ◌==◌, pos, negsuc, is_some, codes, List, [], ◌∷◌, length}
use Rattle.std.specs.Prelude.{slice_get, Option, Some, None, Result, Ok, Err, if◌then◌else◌}
use Rattle.std.specs.Str.{bytes_eq}
use Rattle.c5_rows.specs.Bytes.{checked_bytes, is_between, is_key_byte, is_name_byte, is_text_byte}
use Rattle.c5_rows.specs.Tables.{table_number}
use Rattle.c5_rows.specs.declared.cells.CellType.{CellType}
use Rattle.c5_rows.specs.declared.cells.CellType.TheVariants as types
use Rattle.c5_rows.specs.declared.cells.Cell.{Cell}
use Rattle.c5_rows.specs.declared.cells.Cell.TheVariants.{Int, Txt}
use Rattle.c5_rows.specs.declared.tables.TableDef.{TableDef}
use Rattle.c5_rows.specs.declared.writes.RowName.{RowName}
use Rattle.c5_rows.specs.Sizes.{max_key_bytes, max_text_bytes, max_name_bytes, max_sessions}
use Rattle.c5_definitions.specs.declared.script.Rel.{Rel}
use Rattle.c5_definitions.specs.declared.script.Rel.TheVariants as rels
use Rattle.c5_definitions.specs.declared.script.TurnWord.{TurnWord}
use Rattle.c5_definitions.specs.declared.script.TurnWord.TheVariants as turns
use Rattle.c5_definitions.specs.declared.script.ScriptKind.{ScriptKind}
use Rattle.c5_definitions.specs.declared.script.ScriptKind.TheVariants as kinds
use Rattle.c5_definitions.specs.Steps.{◌>>=◌, or_cause}
use Rattle.c5_definitions.specs.Words.{Word, bare, quoted}
use Rattle.c5_definitions.specs.Numerals.{is_digit, int_of_digits, turn_number_of}

-- what was found, or this cause
abbrev pub found_or : {A E : Type 0} → E → Option A → Result A E
found_or cause (Some x) = Ok x
found_or cause None = Err cause

-- the name of a new table
unfoldable pub new_name_in : List TableDef → Word → Result (List ℕ) ScriptKind
new_name_in tables (quoted text) = Err kinds.Name
new_name_in tables (bare bytes) =
    or_cause kinds.Name (checked_bytes 1 max_name_bytes is_name_byte bytes)
    >>= λ name. if is_some (table_number name tables) then Err kinds.Name else Ok name

-- the type of a column
unfoldable pub type_in : Word → Result CellType ScriptKind
type_in (quoted text) = Err kinds.WrongType
type_in (bare bytes) =
    if bytes_eq bytes (codes "int") then Ok types.Int
    else (if bytes_eq bytes (codes "text") then Ok types.Text
    else Err kinds.WrongType)

-- the name of a table, which gives the table's number
unfoldable pub table_in : List TableDef → Word → Result ℕ ScriptKind
table_in tables (quoted text) = Err kinds.Table
table_in tables (bare bytes) = found_or kinds.Table (table_number bytes tables)

-- a key
unfoldable pub key_in : Word → Result (List ℕ) ScriptKind
key_in (quoted text) = Err kinds.Key
key_in (bare bytes) = or_cause kinds.Key (checked_bytes 1 max_key_bytes is_key_byte bytes)

-- the name of a table and a key, which name a row
unfoldable pub row_name_in : List TableDef → Word → Word → Result RowName ScriptKind
row_name_in tables t k = do
  table ← table_in tables t
  key ← key_in k
  Ok (record { table = table; key = key })

-- a number
unfoldable pub int_in : Word → Result ℤ ScriptKind
int_in (quoted text) = Err kinds.Number
int_in (bare bytes) = found_or kinds.Number (int_of_digits bytes)

-- a cell of a column of this type
unfoldable pub cell_in : CellType → Word → Result Cell ScriptKind
cell_in types.Int (quoted text) = Err kinds.WrongType
cell_in types.Int (bare bytes) = found_or kinds.Number (int_of_digits bytes) >>= λ n. Ok (Int n)
cell_in types.Text (quoted text) =
    or_cause kinds.Limit (checked_bytes 0 max_text_bytes is_text_byte text)
    >>= λ bytes. Ok (Txt bytes)
cell_in types.Text (bare bytes) = Err kinds.WrongType

-- the columns of the table of this number
abbrev pub columns_of : List TableDef → ℕ → List CellType
columns_of tables number = elim (slice_get tables number) [ None ↦ [] | Some table ↦ table.columns ]

-- the column has the type of whole numbers
abbrev pub of_whole_numbers : ℕ → CellType → Result ℕ ScriptKind
of_whole_numbers column types.Int = Ok column
of_whole_numbers column types.Text = Err kinds.WrongType

-- the column of this number, which has to be one of whole numbers
unfoldable pub int_column_of : List CellType → ℕ → Result ℕ ScriptKind
int_column_of columns column = found_or kinds.Column (slice_get columns column)
    >>= of_whole_numbers column

-- one digit, which is the number of a column of whole numbers
unfoldable pub column_in : List CellType → Word → Result ℕ ScriptKind
column_in columns (quoted text) = Err kinds.Column
column_in columns (bare []) = Err kinds.Column
column_in columns (bare (digit ∷ [])) = if is_digit digit then int_column_of columns (digit - 48)
    else Err kinds.Column
column_in columns (bare (digit ∷ other ∷ rest)) = Err kinds.Column

-- how to compare
unfoldable pub rel_in : Word → Result Rel ScriptKind
rel_in (quoted text) = Err kinds.Word
rel_in (bare bytes) =
    if bytes_eq bytes (codes "lt") then Ok rels.Lt
    else (if bytes_eq bytes (codes "le") then Ok rels.Le
    else (if bytes_eq bytes (codes "eq") then Ok rels.Eq
    else (if bytes_eq bytes (codes "ge") then Ok rels.Ge
    else (if bytes_eq bytes (codes "gt") then Ok rels.Gt
    else Err kinds.Word))))

-- a number from 1 to 16
abbrev pub from_1_to_16 : ℤ → Result ℕ ScriptKind
from_1_to_16 (pos n) = if is_between 1 max_sessions n then Ok n else Err kinds.Number
from_1_to_16 (negsuc n) = Err kinds.Number

-- a session
unfoldable pub session_in : Word → Result ℕ ScriptKind
session_in word = int_in word >>= from_1_to_16

-- a step of the schedule: `v`, or `w` or `s` and a number
unfoldable pub turn_in : Word → Result TurnWord ScriptKind
turn_in (quoted text) = Err kinds.Number
turn_in (bare []) = Err kinds.Number
turn_in (bare (first ∷ rest)) =
    if first == 119 then (found_or kinds.Number (turn_number_of rest) >>= λ n. Ok (turns.Worker n))
    else (if first == 115
    then (found_or kinds.Number (turn_number_of rest) >>= λ n. Ok (turns.Session n))
    else (if bytes_eq (first ∷ rest) (codes "v") then Ok turns.Visible
    else Err kinds.Number))

-- ---- words one after the other, tested from left to right

-- words that all pass the same test
unfoldable pub each_in : {A : Type 0} → (Word → Result A ScriptKind) → List Word
    → Result (List A) ScriptKind
each_in test [] = Ok []
each_in test (word ∷ words) = do
  first ← test word
  others ← each_in test words
  Ok (first ∷ others)

-- cells of these columns, as far as both go
unfoldable pub cells_in : List CellType → List Word → Result (List Cell) ScriptKind
cells_in [] words = Ok []
cells_in (column ∷ columns) [] = Ok []
cells_in (column ∷ columns) (word ∷ words) = do
  first ← cell_in column word
  others ← cells_in columns words
  Ok (first ∷ others)

-- the cells of a row: one for each column, and another number of words is a fault before the first
-- of them
unfoldable pub row_in : List CellType → List Word → Result (List Cell) ScriptKind
row_in columns words = if length words == length columns then cells_in columns words
    else Err kinds.Count
