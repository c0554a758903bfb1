-- Faults of scripts that were worked out by hand.
use Rattle.std.specs.Prelude.{◌≡◌, ℕ, List, [], ◌∷◌, ◌++◌, codes, replicate, Err}
use Rattle.std.specs.List.{AllByRecursion, flat_map}
use Rattle.c5_definitions.specs.declared.script.ScriptKind.{ScriptKind}
use Rattle.c5_definitions.specs.declared.script.ScriptKind.TheVariants.{Byte, Quote, Word, Limit}
use Rattle.c5_definitions.specs.declared.script.ScriptKind.TheVariants.{Count, Name, Table, Key}
use Rattle.c5_definitions.specs.declared.script.ScriptKind.TheVariants.{Column, WrongType, Number}
use Rattle.c5_definitions.specs.declared.script.ScriptKind.TheVariants.{Unclosed}
use Rattle.c5_definitions.specs.declared.script.TurnWord.TheVariants.{Visible}
use Rattle.c5_definitions.specs.Steps.{◌>>=◌}
use Rattle.c5_definitions.specs.Lines.{words_of}
use Rattle.c5_definitions.specs.ScriptSoFar.{ScriptSoFar, script_start}
use Rattle.c5_definitions.specs.Statements.{after_line}
use Rattle.c5_definitions.specs.Script.{script_of}
use Rattle.c5_definitions.specs.Worked.{worked_tables}

-- bytes, and the line and the kind of their first fault
pub record FaultyScript : Type 0 where
  pub bytes : List ℕ
  pub line : ℕ
  pub kind : ScriptKind

-- each has its fault
abbrev pub HaveScriptFaults : List FaultyScript → Type 0
HaveScriptFaults = AllByRecursion
    (λ f. script_of f.bytes ≡ Err (record { line = f.line; kind = f.kind }))

-- faults of a line's bytes, quotes and first word, and limits
abbrev pub line_faults : List FaultyScript
line_faults =
    -- a quote that isn't closed, and a tab
    record {
      bytes = codes "table acct int\n" ++ 34 ∷ codes "txn" ++ 9 ∷ [];
      line = 2;
      kind = Byte;
    } ∷
    -- a quote that isn't closed, in a line of no known word
    record { bytes = codes "table acct int\nfrob " ++ 34 ∷ codes "x"; line = 2; kind = Quote } ∷
    -- a quote in a bare word
    record { bytes = codes "table acct int\nfrob a" ++ 34 ∷ codes "b"; line = 2; kind = Quote } ∷
    -- a quoted word that no space follows
    record {
      bytes = codes "table acct int\ntxn\nput acct " ++ 34 ∷ codes "a" ++ 34 ∷ codes "b 1";
      line = 3;
      kind = Quote;
    } ∷
    -- a statement outside a transaction
    record { bytes = codes "table acct int\nput acct a 1"; line = 2; kind = Word } ∷
    record { bytes = codes "txn"; line = 1; kind = Word } ∷  -- a transaction before a table
    -- a statement in a read block
    record { bytes = codes "table acct int\nread 1\nput acct a 1"; line = 3; kind = Word } ∷
    -- a line of a read block in a transaction
    record { bytes = codes "table acct int\ntxn\nrow acct a"; line = 3; kind = Word } ∷
    -- a table after a transaction
    record { bytes = codes "table acct int\ntxn\nend\ntable b int"; line = 4; kind = Word } ∷
    record { bytes = codes "table acct int\nend"; line = 2; kind = Word } ∷  -- the end of no block
    -- a quoted first word
    record {
      bytes = codes "table acct int\n" ++ 34 ∷ codes "txn" ++ 34 ∷ [];
      line = 2;
      kind = Word;
    } ∷
    -- 9 columns, of a name that isn't allowed
    record { bytes = codes "table A int int int int int int int int int"; line = 1; kind = Limit } ∷
    -- 17 keys of a sum of no table
    record {
      bytes = codes "table acct int\nread 1\nsum none 0 k k k k k k k k k k k k k k k k k";
      line = 3;
      kind = Limit;
    } ∷
    -- a read block without lines, with a word too many
    record { bytes = codes "table acct int\nread 1\nend x"; line = 3; kind = Limit } ∷
    []

-- wrong numbers of words, and faults of names and types
abbrev pub count_faults : List FaultyScript
count_faults =
    record { bytes = codes "table acct int\ntxn x"; line = 2; kind = Count } ∷  -- a word too many
    record { bytes = codes "table acct"; line = 1; kind = Count } ∷  -- a table without columns
    -- a delete without a key
    record { bytes = codes "table acct int\ntxn\ndel acct"; line = 3; kind = Count } ∷
    -- a need without a number
    record { bytes = codes "table acct int\ntxn\nneed acct a 0 ge"; line = 3; kind = Count } ∷
    -- an add without a number
    record { bytes = codes "table acct int\ntxn\nadd acct a 0"; line = 3; kind = Count } ∷
    -- a copy without a second key
    record { bytes = codes "table acct int\ntxn\ncopy acct a"; line = 3; kind = Count } ∷
    -- a read block without a session
    record { bytes = codes "table acct int\nread"; line = 2; kind = Count } ∷
    -- a row without a key
    record { bytes = codes "table acct int\nread 1\nrow acct"; line = 3; kind = Count } ∷
    -- a sum without keys
    record { bytes = codes "table acct int\nread 1\nsum acct 0"; line = 3; kind = Count } ∷
    -- a schedule without words
    record { bytes = codes "table acct int\nturns"; line = 2; kind = Count } ∷
    -- a capital letter in a table's name, and no such type
    record { bytes = codes "table Acct real"; line = 1; kind = Name } ∷
    -- a table's name twice
    record { bytes = codes "table acct int\ntable acct int"; line = 2; kind = Name } ∷
    record { bytes = codes "table acct real"; line = 1; kind = WrongType } ∷  -- no such type
    -- no such table, and a quoted key
    record {
      bytes = codes "table acct int\ntxn\ndel acc " ++ 34 ∷ codes "a" ++ 34 ∷ [];
      line = 3;
      kind = Table;
    } ∷
    -- a quoted key, before no such column
    record {
      bytes = codes "table acct int\ntxn\nadd acct " ++ 34 ∷ codes "a" ++ 34 ∷ codes " 9 x";
      line = 3;
      kind = Key;
    } ∷
    -- a quoted second key
    record {
      bytes = codes "table acct int\ntxn\ncopy acct a " ++ 34 ∷ codes "b" ++ 34 ∷ [];
      line = 3;
      kind = Key;
    } ∷
    []

-- faults of other words, and of the end of the input
abbrev pub word_faults : List FaultyScript
word_faults =
    -- two cells for one column
    record { bytes = codes "table acct int\ntxn\nput acct a x 2"; line = 3; kind = Count } ∷
    -- a text for an Int column
    record {
      bytes = codes "table acct int\ntxn\nput acct a " ++ 34 ∷ codes "x" ++ 34 ∷ [];
      line = 3;
      kind = WrongType;
    } ∷
    -- a word for an Int column
    record { bytes = codes "table acct int\ntxn\nput acct a x"; line = 3; kind = Number } ∷
    -- a bare word for a Text column
    record { bytes = codes "table t text\ntxn\nput t a x"; line = 3; kind = WrongType } ∷
    -- a text of 33 bytes
    record {
      bytes = codes "table t text\ntxn\nput t a "
          ++ 34 ∷ codes "abcdefghijklmnopqrstuvwxyz0123456" ++ 34 ∷ [];
      line = 3;
      kind = Limit;
    } ∷
    -- a column of two digits
    record { bytes = codes "table acct int\ntxn\nadd acct a 00 1"; line = 3; kind = Column } ∷
    -- no such column, and no number
    record { bytes = codes "table acct int\ntxn\nadd acct a 1 x"; line = 3; kind = Column } ∷
    -- a Text column, and no number
    record { bytes = codes "table t text\ntxn\nadd t a 0 x"; line = 3; kind = WrongType } ∷
    -- no such relation, and no number
    record { bytes = codes "table acct int\ntxn\nneed acct a 0 ne x"; line = 3; kind = Word } ∷
    -- a number with a plus
    record { bytes = codes "table acct int\ntxn\nadd acct a 0 +1"; line = 3; kind = Number } ∷
    -- a number past 64 bits
    record {
      bytes = codes "table acct int\ntxn\nadd acct a 0 9223372036854775808";
      line = 3;
      kind = Number;
    } ∷
    record { bytes = codes "table acct int\nread 17"; line = 2; kind = Number } ∷  -- session 17
    record { bytes = codes "table acct int\nread 0"; line = 2; kind = Number } ∷  -- session 0
    -- a leading zero in a schedule
    record { bytes = codes "table acct int\nturns w1 w01"; line = 2; kind = Number } ∷
    -- session 17 in a schedule
    record { bytes = codes "table acct int\nturns s17"; line = 2; kind = Number } ∷
    -- a transaction that isn't closed
    record { bytes = codes "table acct int\ntxn"; line = 3; kind = Unclosed } ∷
    -- a read block that isn't closed
    record { bytes = codes "table acct int\nread 1\nrow acct a"; line = 4; kind = Unclosed } ∷
    record { bytes = []; line = 1; kind = Unclosed } ∷  -- no bytes
    []

-- bytes that no line has, and lines that are known at another place
abbrev pub unknown_faults : List FaultyScript
unknown_faults =
    -- a carriage return
    record { bytes = codes "table acct int" ++ 13 ∷ codes "\n"; line = 1; kind = Byte } ∷
    -- byte 7F
    record { bytes = codes "table acct int\nfrob" ++ 127 ∷ []; line = 2; kind = Byte } ∷
    -- a read block before a table
    record { bytes = codes "read 1"; line = 1; kind = Word } ∷
    -- a schedule before a table
    record { bytes = codes "turns v"; line = 1; kind = Word } ∷
    -- a table after a read block
    record {
      bytes = codes "table acct int\nread 1\nrow acct a\nend\ntable b int";
      line = 5;
      kind = Word;
    } ∷
    -- a table after a schedule
    record { bytes = codes "table acct int\nturns v\ntable b int"; line = 3; kind = Word } ∷
    -- a transaction in a transaction
    record { bytes = codes "table acct int\ntxn\ntxn"; line = 3; kind = Word } ∷
    -- a read block in a read block
    record { bytes = codes "table acct int\nread 1\nread 1"; line = 3; kind = Word } ∷
    -- a schedule in a transaction
    record { bytes = codes "table acct int\ntxn\nturns v"; line = 3; kind = Word } ∷
    -- a line of a read block outside it
    record { bytes = codes "table acct int\nsum acct 0 a"; line = 2; kind = Word } ∷
    -- statements outside a transaction
    record { bytes = codes "table acct int\ndel acct a"; line = 2; kind = Word } ∷
    record { bytes = codes "table acct int\ncopy acct a b"; line = 2; kind = Word } ∷
    -- a log, which only a script that a log follows has
    record { bytes = codes "table acct int\nlog"; line = 2; kind = Word } ∷
    []

-- wrong numbers of words that the lists above leave out
abbrev pub form_faults : List FaultyScript
form_faults =
    -- a table without a name
    record { bytes = codes "table"; line = 1; kind = Count } ∷
    -- a put without cells
    record { bytes = codes "table acct int\ntxn\nput acct a"; line = 3; kind = Count } ∷
    -- a put without a key
    record { bytes = codes "table acct int\ntxn\nput acct"; line = 3; kind = Count } ∷
    -- two keys of a delete
    record { bytes = codes "table acct int\ntxn\ndel acct a b"; line = 3; kind = Count } ∷
    -- two numbers of a need
    record { bytes = codes "table acct int\ntxn\nneed acct a 0 ge 1 2"; line = 3; kind = Count } ∷
    -- two numbers of an add
    record { bytes = codes "table acct int\ntxn\nadd acct a 0 1 2"; line = 3; kind = Count } ∷
    -- three keys of a copy
    record { bytes = codes "table acct int\ntxn\ncopy acct a b c"; line = 3; kind = Count } ∷
    -- two sessions of a read block
    record { bytes = codes "table acct int\nread 1 2"; line = 2; kind = Count } ∷
    -- two keys of a row
    record { bytes = codes "table acct int\nread 1\nrow acct a b"; line = 3; kind = Count } ∷
    -- the end of a transaction, with a word too many
    record { bytes = codes "table acct int\ntxn\nend x"; line = 3; kind = Count } ∷
    -- the end of a read block, with a word too many
    record { bytes = codes "table acct int\nread 1\nrow acct a\nend x"; line = 4; kind = Count } ∷
    []

-- names of tables and types, tables and keys in each form of line; a later word is faulty too
abbrev pub name_faults : List FaultyScript
name_faults =
    -- a quoted name
    record {
      bytes = codes "table " ++ 34 ∷ codes "acct" ++ 34 ∷ codes " real";
      line = 1;
      kind = Name;
    } ∷
    -- a name of 17 bytes
    record { bytes = codes "table abcdefghijklmnopq real"; line = 1; kind = Name } ∷
    -- a quoted type
    record {
      bytes = codes "table acct " ++ 34 ∷ codes "int" ++ 34 ∷ [];
      line = 1;
      kind = WrongType;
    } ∷
    -- no such table
    record {
      bytes = codes "table acct int\ntxn\nput acc " ++ 34 ∷ codes "a" ++ 34 ∷ codes " x";
      line = 3;
      kind = Table;
    } ∷
    record {
      bytes = codes "table acct int\ntxn\nneed acc " ++ 34 ∷ codes "a" ++ 34 ∷ codes " 9 ne x";
      line = 3;
      kind = Table;
    } ∷
    record {
      bytes = codes "table acct int\ntxn\nadd acc " ++ 34 ∷ codes "a" ++ 34 ∷ codes " 9 x";
      line = 3;
      kind = Table;
    } ∷
    record {
      bytes = codes "table acct int\ntxn\ncopy acc " ++ 34 ∷ codes "a" ++ 34 ∷ codes " "
          ++ 34 ∷ codes "b" ++ 34 ∷ [];
      line = 3;
      kind = Table;
    } ∷
    record {
      bytes = codes "table acct int\nread 1\nrow acc " ++ 34 ∷ codes "a" ++ 34 ∷ [];
      line = 3;
      kind = Table;
    } ∷
    record {
      bytes = codes "table acct int\nread 1\nsum acc 9 " ++ 34 ∷ codes "a" ++ 34 ∷ [];
      line = 3;
      kind = Table;
    } ∷
    -- a quoted table
    record {
      bytes = codes "table acct int\ntxn\ndel " ++ 34 ∷ codes "acct" ++ 34 ∷ codes " a";
      line = 3;
      kind = Table;
    } ∷
    -- a quoted key
    record {
      bytes = codes "table acct int\ntxn\nput acct " ++ 34 ∷ codes "a" ++ 34 ∷ codes " 1 2";
      line = 3;
      kind = Key;
    } ∷
    record {
      bytes = codes "table acct int\ntxn\ndel acct " ++ 34 ∷ codes "a" ++ 34 ∷ [];
      line = 3;
      kind = Key;
    } ∷
    record {
      bytes = codes "table acct int\ntxn\nneed acct " ++ 34 ∷ codes "a" ++ 34 ∷ codes " 9 ne x";
      line = 3;
      kind = Key;
    } ∷
    record {
      bytes = codes "table acct int\ntxn\ncopy acct " ++ 34 ∷ codes "a" ++ 34 ∷ codes " b";
      line = 3;
      kind = Key;
    } ∷
    record {
      bytes = codes "table acct int\nread 1\nrow acct " ++ 34 ∷ codes "a" ++ 34 ∷ [];
      line = 3;
      kind = Key;
    } ∷
    -- a quoted second key of a sum
    record {
      bytes = codes "table acct int\nread 1\nsum acct 0 a " ++ 34 ∷ codes "b" ++ 34 ∷ [];
      line = 3;
      kind = Key;
    } ∷
    -- a key of 33 bytes
    record {
      bytes = codes "table acct int\ntxn\ndel acct abcdefghijklmnopqrstuvwxyz0123456";
      line = 3;
      kind = Key;
    } ∷
    []

-- the words after them in each form of line, tested from left to right
abbrev pub later_word_faults : List FaultyScript
later_word_faults =
    -- one cell for two columns
    record { bytes = codes "table acct int int\ntxn\nput acct a x"; line = 3; kind = Count } ∷
    -- the first of two faulty cells
    record { bytes = codes "table acct int text\ntxn\nput acct a x y"; line = 3; kind = Number } ∷
    -- a bare word for the second column, a Text one
    record {
      bytes = codes "table acct int text\ntxn\nput acct a 1 y";
      line = 3;
      kind = WrongType;
    } ∷
    -- no such column, and no such relation
    record { bytes = codes "table acct int\ntxn\nneed acct a 1 ne x"; line = 3; kind = Column } ∷
    -- a Text column, and no such relation
    record { bytes = codes "table t text\ntxn\nneed t a 0 ne x"; line = 3; kind = WrongType } ∷
    -- no such column, and a quoted key
    record {
      bytes = codes "table acct int\nread 1\nsum acct 1 " ++ 34 ∷ codes "a" ++ 34 ∷ [];
      line = 3;
      kind = Column;
    } ∷
    -- a Text column, and a quoted key
    record {
      bytes = codes "table t text\nread 1\nsum t 0 " ++ 34 ∷ codes "a" ++ 34 ∷ [];
      line = 3;
      kind = WrongType;
    } ∷
    -- a quoted column
    record {
      bytes = codes "table acct int\ntxn\nadd acct a " ++ 34 ∷ codes "0" ++ 34 ∷ codes " x";
      line = 3;
      kind = Column;
    } ∷
    -- a letter for a column
    record { bytes = codes "table acct int\ntxn\nadd acct a x x"; line = 3; kind = Column } ∷
    -- a quoted relation
    record {
      bytes = codes "table acct int\ntxn\nneed acct a 0 " ++ 34 ∷ codes "ge" ++ 34 ∷ codes " x";
      line = 3;
      kind = Word;
    } ∷
    -- no number after a relation
    record { bytes = codes "table acct int\ntxn\nneed acct a 0 ge x"; line = 3; kind = Number } ∷
    -- a quoted number
    record {
      bytes = codes "table acct int\ntxn\nadd acct a 0 " ++ 34 ∷ codes "1" ++ 34 ∷ [];
      line = 3;
      kind = Number;
    } ∷
    -- a minus alone
    record { bytes = codes "table acct int\ntxn\nadd acct a 0 -"; line = 3; kind = Number } ∷
    -- 20 digits
    record {
      bytes = codes "table acct int\ntxn\nadd acct a 0 00000000000000000001";
      line = 3;
      kind = Number;
    } ∷
    -- a number below those of 64 bits
    record {
      bytes = codes "table acct int\ntxn\nadd acct a 0 -9223372036854775809";
      line = 3;
      kind = Number;
    } ∷
    -- no number of a session
    record { bytes = codes "table acct int\nread x"; line = 2; kind = Number } ∷
    record { bytes = codes "table acct int\nread -1"; line = 2; kind = Number } ∷
    record {
      bytes = codes "table acct int\nread " ++ 34 ∷ codes "1" ++ 34 ∷ [];
      line = 2;
      kind = Number;
    } ∷
    -- no words of a schedule
    record { bytes = codes "table acct int\nturns v x"; line = 2; kind = Number } ∷
    record { bytes = codes "table acct int\nturns v vv"; line = 2; kind = Number } ∷
    record { bytes = codes "table acct int\nturns v w"; line = 2; kind = Number } ∷
    record { bytes = codes "table acct int\nturns v w0"; line = 2; kind = Number } ∷
    record { bytes = codes "table acct int\nturns v w17"; line = 2; kind = Number } ∷
    record {
      bytes = codes "table acct int\nturns v " ++ 34 ∷ codes "v" ++ 34 ∷ [];
      line = 2;
      kind = Number;
    } ∷
    []

-- the same lines so many times
abbrev pub repeated : ℕ → List ℕ → List ℕ
repeated count lines = flat_map (λ (line : List ℕ). line) (replicate count lines)

-- 16 tables
abbrev pub sixteen_tables : List ℕ
sixteen_tables =
    flat_map (λ letter. codes "table " ++ letter ∷ codes " int\n") (codes "abcdefghijklmnop")

-- one line, word or block more than a script may have
abbrev pub limit_faults : List FaultyScript
limit_faults =
    -- the 17th table
    record {
      bytes = sixteen_tables ++ codes "table q int\n";
      line = 17;
      kind = Limit;
    } ∷
    -- a table alone, as the 17th
    record {
      bytes = sixteen_tables ++ codes "table\n";
      line = 17;
      kind = Limit;
    } ∷
    -- statement 257 of a transaction, of any form
    record {
      bytes = codes "table acct int\ntxn\n" ++ repeated 256 (codes "del acct a\n")
          ++ codes "put\n";
      line = 259;
      kind = Limit;
    } ∷
    -- line 17 of a read block
    record {
      bytes = codes "table acct int\nread 1\n" ++ repeated 16 (codes "row acct a\n")
          ++ codes "row acct a\n";
      line = 19;
      kind = Limit;
    } ∷
    -- a sum as line 17, without keys
    record {
      bytes = codes "table acct int\nread 1\n" ++ repeated 16 (codes "row acct a\n")
          ++ codes "sum\n";
      line = 19;
      kind = Limit;
    } ∷
    -- read block 257, without a session
    record {
      bytes = codes "table acct int\n" ++ repeated 256 (codes "read 1\nrow acct a\nend\n")
          ++ codes "read\n";
      line = 770;
      kind = Limit;
    } ∷
    []

-- ---- the words of a schedule

-- a table, and a schedule of so many words
abbrev pub after_turn_words : ℕ → ScriptSoFar
after_turn_words count = record script_start {
  tables = worked_tables;
  turns = replicate count Visible;
}

-- a line after a schedule of so many words, and the kind of its first fault
pub record FaultyTurns : Type 0 where
  pub before : ℕ
  pub line : List ℕ
  pub kind : ScriptKind

-- each line has its fault
abbrev pub HaveTurnFaults : List FaultyTurns → Type 0
HaveTurnFaults = AllByRecursion
    (λ f. (words_of f.line >>= after_line (after_turn_words f.before)) ≡ Err f.kind)

-- a schedule has at most 65,536 words
abbrev pub turn_faults : List FaultyTurns
turn_faults =
    -- word 65,537, which is none of a schedule
    record { before = 65536; line = codes "turns x"; kind = Limit } ∷
    -- the second word of the line is word 65,537
    record { before = 65535; line = codes "turns v x"; kind = Limit } ∷
    -- word 65,536 may come, and is none of a schedule
    record { before = 65535; line = codes "turns x"; kind = Number } ∷
    -- no further word
    record { before = 65536; line = codes "turns"; kind = Count } ∷
    []
