-- Scripts and what `clone` and `backup` print for them, worked by hand.
use Rattle.std.specs.Prelude.{ℕ, List, [], ◌∷◌, ◌++◌, pos, codes}
use Rattle.c5_rows.specs.declared.cells.Cell.TheVariants.{Int}
use Rattle.c5_rows.specs.declared.writes.RowName.{RowName}
use Rattle.c5_definitions.specs.declared.script.Statement.TheVariants.{Put, Add}
use Rattle.c5_definitions.specs.declared.script.ReadLine.TheVariants.{OneRow, SumOf}
use Rattle.c5_definitions.specs.ScriptParts.{ReadParts, ScriptParts}
use Rattle.c5_definitions.specs.Worked.{worked_tables}

-- the row `a`
abbrev pub row_a : RowName
row_a = record { table = 0; key = codes "a" }

-- a read of the row `a` by this session, and one of the sum over it
abbrev pub read_a : ℕ → ReadParts
read_a session = record { session = session; lines = OneRow row_a ∷ [] }

abbrev pub sum_a : ℕ → ReadParts
sum_a session = record { session = session; lines = SumOf 0 0 (codes "a" ∷ []) ∷ [] }

-- no transactions, and one read
abbrev pub quiet_script : ScriptParts
quiet_script = record { tables = worked_tables; bodies = []; reads = read_a 1 ∷ []; turns = [] }

abbrev pub quiet_text : List ℕ
quiet_text = codes "order\nread 1 place 0 lag 0\nacct a -\nrows 0\n"

-- a put of 10 and an add of 5 to it; session 2 reads, then session 1, and session 2 again
abbrev pub busy_script : ScriptParts
busy_script = record {
  tables = worked_tables;
  bodies = (Put row_a (Int (pos 10) ∷ []) ∷ []) ∷ (Add row_a 0 (pos 5) ∷ []) ∷ [];
  reads = read_a 2 ∷ sum_a 1 ∷ read_a 2 ∷ [];
  turns = [];
}

-- the put first: each reply is that of the rows after so many transactions
abbrev pub put_first_text : List ℕ
put_first_text =
    codes "order 0 1\nread 1 place 2 lag 0\nsum 15\n"
    ++ codes "read 2 place 0 lag 2\nacct a -\nread 2 place 1 lag 1\nacct a 10\n"
    ++ codes "acct a 15\nrows 1\n"

-- the add first: there is no row yet, so it declines
abbrev pub add_first_text : List ℕ
add_first_text =
    codes "order 1 0\nread 1 place 1 lag 1\nsum 0\n"
    ++ codes "read 2 place 1 lag 1\nacct a -\nread 2 place 2 lag 0\nacct a 10\n"
    ++ codes "acct a 10\nrows 1\n"
