-- Scripts that were worked by hand.
use Rattle.std.specs.Prelude.{ℕ, List, [], ◌∷◌, ◌++◌, pos, negsuc, codes}
use Rattle.c5_rows.specs.declared.cells.Cell.TheVariants.{Int, Txt}
use Rattle.c5_definitions.specs.declared.script.Statement.TheVariants.{Put, Del, Need, Add, Copy}
use Rattle.c5_definitions.specs.declared.script.ReadLine.TheVariants.{OneRow, SumOf}
use Rattle.c5_definitions.specs.declared.script.Rel.TheVariants as rels
use Rattle.c5_definitions.specs.declared.script.TurnWord.TheVariants as turns
use Rattle.c5_definitions.specs.ScriptParts.{ScriptParts}
use Rattle.c5_definitions.specs.Worked.{worked_tables, text_tables}

-- one table of one Int column
abbrev pub table_text : List ℕ
table_text = codes "table acct int\n"

abbrev pub table_parts : ScriptParts
table_parts = record { tables = worked_tables; bodies = []; reads = []; turns = [] }

-- a transaction that puts 10 into the row `a`
abbrev pub put_text : List ℕ
put_text = table_text ++ codes "txn\nput acct a 10\nend\n"

abbrev pub put_parts : ScriptParts
put_parts = record {
  tables = worked_tables;
  bodies = (Put (record { table = 0; key = codes "a" }) (Int (pos 10) ∷ []) ∷ []) ∷ [];
  reads = [];
  turns = [];
}

-- a transaction that puts a text with a blank in it, and a number below 0
abbrev pub quoted_text : List ℕ
quoted_text = codes "table t text int\ntxn\nput t k " ++ 34 ∷ codes "hello world"
    ++ 34 ∷ codes " -5\nend\n"

abbrev pub quoted_parts : ScriptParts
quoted_parts = record {
  tables = text_tables;
  bodies = (Put (record { table = 0; key = codes "k" })
      (Txt (codes "hello world") ∷ Int (negsuc 4) ∷ []) ∷ []) ∷ [];
  reads = [];
  turns = [];
}

-- every kind of block, with blanks that part nothing, a line without words, and no line end at the
-- end
abbrev pub all_text : List ℕ
all_text =
    codes "  table acct int \n\ntxn\nneed acct a 0 ge 007\n add  acct a 0 -1\nend\n"
    ++ codes "read 1\nrow acct a\nsum acct 0 a b\nend\nturns w1 v s16"

abbrev pub all_parts : ScriptParts
all_parts = record {
  tables = worked_tables;
  bodies = (Need (record { table = 0; key = codes "a" }) 0 rels.Ge (pos 7)
      ∷ Add (record { table = 0; key = codes "a" }) 0 (negsuc 0) ∷ []) ∷ [];
  reads = record {
    session = 1;
    lines = OneRow (record { table = 0; key = codes "a" })
        ∷ SumOf 0 0 (codes "a" ∷ codes "b" ∷ []) ∷ [];
  } ∷ [];
  turns = turns.Worker 1 ∷ turns.Visible ∷ turns.Session 16 ∷ [];
}

-- the statements and relations that are not in the others, each once
abbrev pub forms_text : List ℕ
forms_text =
    table_text ++ codes "txn\ndel acct a\ncopy acct a b\nend\ntxn\nneed acct a 0 lt -1\n"
    ++ codes "need acct a 0 le 0\nneed acct a 0 eq 1\nneed acct a 0 gt 2\nend\n"

abbrev pub forms_parts : ScriptParts
forms_parts = record {
  tables = worked_tables;
  bodies =
      (Del (record { table = 0; key = codes "a" })
      ∷ Copy (record { table = 0; key = codes "a" }) (record { table = 0; key = codes "b" }) ∷ [])
      ∷ (Need (record { table = 0; key = codes "a" }) 0 rels.Lt (negsuc 0)
      ∷ Need (record { table = 0; key = codes "a" }) 0 rels.Le (pos 0)
      ∷ Need (record { table = 0; key = codes "a" }) 0 rels.Eq (pos 1)
      ∷ Need (record { table = 0; key = codes "a" }) 0 rels.Gt (pos 2) ∷ []) ∷ [];
  reads = [];
  turns = [];
}

-- in place of a number there is a bare word, or a text
abbrev pub bad_number_text : List ℕ
bad_number_text = table_text ++ codes "txn\nput acct a x\nend\n"

abbrev pub bad_type_text : List ℕ
bad_type_text = table_text ++ codes "txn\nput acct a " ++ 34 ∷ codes "x" ++ 34 ∷ codes "\nend\n"

-- a transaction that is not closed
abbrev pub open_text : List ℕ
open_text = table_text ++ codes "txn\n"

-- a line that fails three tests: the first of them is that each of its bytes is allowed
abbrev pub tab_text : List ℕ
tab_text = table_text ++ codes "frob a" ++ 34 ∷ 9 ∷ codes "\n"

-- a quote in a bare word
abbrev pub quote_text : List ℕ
quote_text = table_text ++ codes "frob a" ++ 34 ∷ codes "b\n"

-- what follows a table is a log
abbrev pub front_text : List ℕ
front_text = table_text ++ codes " log \n"
