-- The lines of a script: where each is known, how many words it has, and what it adds.
--
-- A line is known by its first word. Then the limits are tested, then the number of its words, and
-- then its words from left to right. The definitions here have the words after the first one.
use Rattle.std.specs.Prelude.{ℕ, ◌+◌, ◌&&◌, ◌||◌, Bool, false, nat_lt, nat_le, codes, List, [], ◌∷◌}
use Rattle.std.specs.Prelude.{◌++◌, length, Result, Ok, Err, if◌then◌else◌}
use Rattle.std.specs.Str.{bytes_eq}
use Rattle.c5_rows.specs.declared.tables.TableDef.{TableDef}
use Rattle.c5_rows.specs.Sizes.{max_tables, max_columns, max_reads, max_turn_words, max_statements}
use Rattle.c5_rows.specs.Sizes.{max_read_lines, max_sum_keys}
use Rattle.c5_definitions.specs.declared.script.Statement.{Statement}
use Rattle.c5_definitions.specs.declared.script.Statement.TheVariants.{Put, Del, Need, Add, Copy}
use Rattle.c5_definitions.specs.declared.script.ReadLine.{ReadLine}
use Rattle.c5_definitions.specs.declared.script.ReadLine.TheVariants.{OneRow, SumOf}
use Rattle.c5_definitions.specs.declared.script.TurnWord.{TurnWord}
use Rattle.c5_definitions.specs.declared.script.ScriptKind.{ScriptKind}
use Rattle.c5_definitions.specs.declared.script.ScriptKind.TheVariants as kinds
use Rattle.c5_definitions.specs.Steps.{◌>>=◌}
use Rattle.c5_definitions.specs.Words.{Word, bare, quoted}
use Rattle.c5_definitions.specs.ScriptSoFar.{ScriptSoFar, Block, outside, in_txn, in_read}
use Rattle.c5_definitions.specs.ScriptSoFar.{is_outside, has_table, is_heading}
use Rattle.c5_definitions.specs.Places.{new_name_in, type_in, table_in, key_in, row_name_in, int_in}
use Rattle.c5_definitions.specs.Places.{row_in, columns_of, column_in, rel_in, session_in, turn_in}
use Rattle.c5_definitions.specs.Places.{each_in}

-- ---- outside blocks

-- `table NAME TYPE ..`
unfoldable pub new_table : List TableDef → Word → List Word → Result TableDef ScriptKind
new_table tables word types = do
  name ← new_name_in tables word
  columns ← each_in type_in types
  Ok (record { name = name; columns = columns })

unfoldable pub table_words : List TableDef → List Word → Result TableDef ScriptKind
table_words tables (name ∷ type ∷ types) = new_table tables name (type ∷ types)
table_words tables _ = Err kinds.Count

-- as long as there is room for one more table; a table has a limit of columns
unfoldable pub table_line : List TableDef → List Word → Result TableDef ScriptKind
table_line tables words = if nat_le max_tables (length tables)
    || nat_lt (1 + max_columns) (length words) then Err kinds.Limit else table_words tables words

-- a line that adds a table
unfoldable pub heading_line : ScriptSoFar → List Word → Result ScriptSoFar ScriptKind
heading_line s words = table_line s.tables words
    >>= λ new. Ok (record s { tables = s.tables ++ new ∷ [] })

-- `txn`
unfoldable pub txn_words : List Word → Result Block ScriptKind
txn_words [] = Ok (in_txn [])
txn_words _ = Err kinds.Count

-- `read SESSION`
unfoldable pub read_words : List Word → Result Block ScriptKind
read_words (word ∷ []) = session_in word >>= λ session. Ok (in_read session [])
read_words _ = Err kinds.Count

-- after so many read blocks, as long as there is room for one more
unfoldable pub read_line : ℕ → List Word → Result Block ScriptKind
read_line count words = if nat_le max_reads count then Err kinds.Limit else read_words words

-- `turns WORD ..`
unfoldable pub turns_words : List Word → Result (List TurnWord) ScriptKind
turns_words [] = Err kinds.Count
turns_words (word ∷ words) = each_in turn_in (word ∷ words)

-- after so many turn words, as long as there is room for these
unfoldable pub turns_line : ℕ → List Word → Result (List TurnWord) ScriptKind
turns_line count words = if nat_lt max_turn_words (count + length words) then Err kinds.Limit
    else turns_words words

-- a line that is known once there is a table
unfoldable pub later_line : ScriptSoFar → List ℕ → List Word → Result ScriptSoFar ScriptKind
later_line s first words =
    if bytes_eq first (codes "txn")
    then (txn_words words >>= λ block. Ok (record s { block = block }))
    else (if bytes_eq first (codes "read")
    then (read_line (length s.reads) words >>= λ block. Ok (record s { block = block }))
    else (if bytes_eq first (codes "turns")
    then (turns_line (length s.turns) words >>= λ new. Ok (record s { turns = s.turns ++ new }))
    else Err kinds.Word))

-- a table is known before the first transaction, read block or schedule
unfoldable pub outside_line : ScriptSoFar → List ℕ → List Word → Result ScriptSoFar ScriptKind
outside_line s first words =
    if bytes_eq first (codes "table") && is_heading s then heading_line s words
    else (if has_table s then later_line s first words
    else Err kinds.Word)

-- ---- in a transaction

-- `put T K CELL ..`, one cell for each column
unfoldable pub put_statement : List TableDef → Word → Word → List Word → Result Statement ScriptKind
put_statement tables t k cells = do
  name ← row_name_in tables t k
  row ← row_in (columns_of tables name.table) cells
  Ok (Put name row)

unfoldable pub put_words : List TableDef → List Word → Result Statement ScriptKind
put_words tables (t ∷ k ∷ cell ∷ cells) = put_statement tables t k (cell ∷ cells)
put_words tables _ = Err kinds.Count

-- `del T K`
unfoldable pub del_words : List TableDef → List Word → Result Statement ScriptKind
del_words tables (t ∷ k ∷ []) = row_name_in tables t k >>= λ name. Ok (Del name)
del_words tables _ = Err kinds.Count

-- `need T K COL REL N`
unfoldable pub need_words : List TableDef → List Word → Result Statement ScriptKind
need_words tables (t ∷ k ∷ col ∷ rel ∷ n ∷ []) = do
  name ← row_name_in tables t k
  column ← column_in (columns_of tables name.table) col
  relation ← rel_in rel
  number ← int_in n
  Ok (Need name column relation number)
need_words tables _ = Err kinds.Count

-- `add T K COL N`
unfoldable pub add_words : List TableDef → List Word → Result Statement ScriptKind
add_words tables (t ∷ k ∷ col ∷ n ∷ []) = do
  name ← row_name_in tables t k
  column ← column_in (columns_of tables name.table) col
  number ← int_in n
  Ok (Add name column number)
add_words tables _ = Err kinds.Count

-- `copy T K1 K2`
unfoldable pub copy_words : List TableDef → List Word → Result Statement ScriptKind
copy_words tables (t ∷ k1 ∷ k2 ∷ []) = do
  from ← row_name_in tables t k1
  key ← key_in k2
  Ok (Copy from (record { table = from.table; key = key }))
copy_words tables _ = Err kinds.Count

-- which statement a line is
pub data Form : Type 0 where
  put : Form
  del : Form
  need : Form
  add : Form
  copy : Form

unfoldable pub form_of : List ℕ → Result Form ScriptKind
form_of first =
    if bytes_eq first (codes "put") then Ok put
    else (if bytes_eq first (codes "del") then Ok del
    else (if bytes_eq first (codes "need") then Ok need
    else (if bytes_eq first (codes "add") then Ok add
    else (if bytes_eq first (codes "copy") then Ok copy
    else Err kinds.Word))))

unfoldable pub statement_words : Form → List TableDef → List Word → Result Statement ScriptKind
statement_words put tables words = put_words tables words
statement_words del tables words = del_words tables words
statement_words need tables words = need_words tables words
statement_words add tables words = add_words tables words
statement_words copy tables words = copy_words tables words

-- after so many statements, as long as there is room for one more
unfoldable pub statement_line : List TableDef → ℕ → List ℕ → List Word → Result Statement ScriptKind
statement_line tables count first words =
    form_of first >>= λ form. if nat_le max_statements count then Err kinds.Limit
    else statement_words form tables words

-- ---- in a read block

-- `row T K`
unfoldable pub row_words : List TableDef → List Word → Result ReadLine ScriptKind
row_words tables (t ∷ k ∷ []) = row_name_in tables t k >>= λ name. Ok (OneRow name)
row_words tables _ = Err kinds.Count

-- `sum T COL K ..`
unfoldable pub sum_words : List TableDef → List Word → Result ReadLine ScriptKind
sum_words tables (t ∷ col ∷ key ∷ keys) = do
  table ← table_in tables t
  column ← column_in (columns_of tables table) col
  all ← each_in key_in (key ∷ keys)
  Ok (SumOf table column all)
sum_words tables _ = Err kinds.Count

-- after so many lines, as long as there is room for one more; a sum has a limit of keys
unfoldable pub question_line : List TableDef → ℕ → List ℕ → List Word → Result ReadLine ScriptKind
question_line tables count first words =
    if bytes_eq first (codes "row")
    then (if nat_le max_read_lines count then Err kinds.Limit else row_words tables words)
    else (if bytes_eq first (codes "sum")
    then (if nat_le max_read_lines count || nat_lt (2 + max_sum_keys) (length words)
    then Err kinds.Limit else sum_words tables words)
    else Err kinds.Word)

-- ---- any line

-- `end`, which closes a block; a read block has at least one line
unfoldable pub end_line : Block → ScriptSoFar → List Word → Result ScriptSoFar ScriptKind
end_line outside s words = Err kinds.Word
end_line (in_txn statements) s [] =
    Ok (record s { bodies = s.bodies ++ statements ∷ []; block = outside })
end_line (in_txn statements) s (word ∷ words) = Err kinds.Count
end_line (in_read session []) s words = Err kinds.Limit
end_line (in_read session (line ∷ lines)) s [] =
    Ok (record s {
      reads = s.reads ++ record { session = session; lines = line ∷ lines } ∷ [];
      block = outside;
    })
end_line (in_read session (line ∷ lines)) s (word ∷ words) = Err kinds.Count

-- a line of a transaction or of a read block that doesn't close it
unfoldable pub inside_line : Block → List TableDef → List ℕ → List Word → Result Block ScriptKind
inside_line outside tables first words = Err kinds.Word
inside_line (in_txn statements) tables first words =
    statement_line tables (length statements) first words
    >>= λ new. Ok (in_txn (statements ++ new ∷ []))
inside_line (in_read session lines) tables first words =
    question_line tables (length lines) first words
    >>= λ new. Ok (in_read session (lines ++ new ∷ []))

-- a line whose first word is this one
unfoldable pub known_line : ScriptSoFar → List ℕ → List Word → Result ScriptSoFar ScriptKind
known_line s first words =
    if bytes_eq first (codes "end") then end_line s.block s words
    else (if is_outside s.block then outside_line s first words
    else (inside_line s.block s.tables first words >>= λ block. Ok (record s { block = block })))

-- what has been read after a line of these words, or the kind of the first test that the line fails
unfoldable pub after_line : ScriptSoFar → List Word → Result ScriptSoFar ScriptKind
after_line s [] = Ok s
after_line s (quoted text ∷ words) = Err kinds.Word
after_line s (bare first ∷ words) = known_line s first words

-- ---- a line of a script that a log follows

-- the script goes on, or the log begins after the line
pub data FrontLine : Type 0 where
  goes_on : ScriptSoFar → FrontLine
  log_follows : FrontLine

-- the first word is `log`, outside blocks, once there is a table
abbrev pub is_log_line : ScriptSoFar → List Word → Bool
is_log_line s [] = false
is_log_line s (quoted text ∷ words) = false
is_log_line s (bare first ∷ words) = bytes_eq first (codes "log") && is_outside s.block
    && has_table s

-- `log` is alone
unfoldable pub log_line : List Word → Result FrontLine ScriptKind
log_line (first ∷ []) = Ok log_follows
log_line _ = Err kinds.Count

-- after a line of these words, which may be the one that ends the script
unfoldable pub after_front_line : ScriptSoFar → List Word → Result FrontLine ScriptKind
after_front_line s words = if is_log_line s words then log_line words
    else (after_line s words >>= λ next. Ok (goes_on next))
