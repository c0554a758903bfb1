-- What statements, bodies, read blocks and serial runs do, worked out by hand.
use Rattle.std.specs.Prelude.{◌≡◌, ◌-◌, ◌^◌, ℕ, ℤ, pos, negsuc, true, false, codes, List, []}
use Rattle.std.specs.Prelude.{◌∷◌}
use Rattle.std.specs.FinMap.{empty, insert}
use Rattle.std.specs.List.{AllByRecursion}
use Rattle.c5_rows.specs.declared.cells.Cell.{Cell}
use Rattle.c5_rows.specs.declared.cells.Cell.TheVariants.{Int}
use Rattle.c5_rows.specs.declared.writes.RowName.{RowName}
use Rattle.c5_rows.specs.declared.writes.Change.TheVariants as changes
use Rattle.c5_rows.specs.declared.writes.Write.{Write}
use Rattle.c5_rows.specs.declared.writes.Txn.{Txn}
use Rattle.c5_rows.specs.declared.answer.AnswerLine.{AnswerLine}
use Rattle.c5_rows.specs.declared.answer.AnswerLine.TheVariants.{Found, Absent, Sum}
use Rattle.c5_rows.specs.Order.{row_name_cmp}
use Rattle.c5_rows.specs.State.{State}
use Rattle.c5_definitions.specs.declared.script.Statement.{Statement}
use Rattle.c5_definitions.specs.declared.script.Statement.TheVariants.{Put, Del, Need, Add, Copy}
use Rattle.c5_definitions.specs.declared.script.ReadLine.TheVariants.{OneRow, SumOf}
use Rattle.c5_definitions.specs.declared.script.Rel.TheVariants.{Lt, Le, Eq, Ge, Gt}
use Rattle.c5_definitions.specs.ScriptParts.{ReadParts}
use Rattle.c5_definitions.specs.Eval.{Ending, eval}

-- a row of table 0
abbrev pub at : List ℕ → RowName
at key = record { table = 0; key = key }

-- a row of one number
abbrev pub int_row : ℤ → List Cell
int_row n = Int n ∷ []

-- the row `a` has 10, `b` has -3, and `m` the greatest number of 64 bits; `z` is absent
abbrev pub start : State
start = insert (insert (insert (empty {R = row_name_cmp}) (at (codes "a")) (int_row (pos 10)))
    (at (codes "b")) (int_row (negsuc 2))) (at (codes "m")) (int_row (pos (2 ^ 63 - 1)))

-- a body, and how it ends on these rows
pub record BodyCase : Type 0 where
  pub body : List Statement
  pub ends : Ending

-- each body ends so
abbrev pub EndSo : List BodyCase → Type 0
EndSo = AllByRecursion (λ c. eval c.body start ≡ c.ends)

abbrev pub declined : Ending
declined = record { declined = true; writes = [] }

abbrev pub wrote : List Write → Ending
wrote writes = record { declined = false; writes = writes }

abbrev pub put_of : List ℕ → ℤ → Write
put_of key n = record { name = at key; change = changes.Put (int_row n) }

abbrev pub gone_of : List ℕ → Write
gone_of key = record { name = at key; change = changes.Gone }

-- each form of statement by itself
abbrev pub statement_cases : List BodyCase
statement_cases =
    record { body = []; ends = wrote [] } ∷  -- no statements
    -- a new row
    record {
      body = Put (at (codes "c")) (int_row (pos 7)) ∷ [];
      ends = wrote (put_of (codes "c") (pos 7) ∷ []);
    } ∷
    -- a row as it was
    record {
      body = Put (at (codes "a")) (int_row (pos 10)) ∷ [];
      ends = wrote (put_of (codes "a") (pos 10) ∷ []);
    } ∷
    record { body = Del (at (codes "a")) ∷ []; ends = wrote (gone_of (codes "a") ∷ []) } ∷  -- a row
    -- an absent row
    record { body = Del (at (codes "z")) ∷ []; ends = wrote (gone_of (codes "z") ∷ []) } ∷
    record {
      body = Add (at (codes "a")) 0 (pos 5) ∷ [];
      ends = wrote (put_of (codes "a") (pos 15) ∷ []);
    } ∷
    -- from below 0 to 0
    record {
      body = Add (at (codes "b")) 0 (pos 3) ∷ [];
      ends = wrote (put_of (codes "b") (pos 0) ∷ []);
    } ∷
    record { body = Add (at (codes "z")) 0 (pos 5) ∷ []; ends = declined } ∷  -- an absent row
    record { body = Add (at (codes "m")) 0 (pos 1) ∷ []; ends = declined } ∷  -- a sum past 64 bits
    record {
      body = Copy (at (codes "a")) (at (codes "c")) ∷ [];
      ends = wrote (put_of (codes "c") (pos 10) ∷ []);
    } ∷
    -- of an absent row
    record {
      body = Copy (at (codes "z")) (at (codes "a")) ∷ [];
      ends = wrote (gone_of (codes "a") ∷ []);
    } ∷
    []

-- each relation below, at and above the number, and on an absent row
abbrev pub need_cases : List BodyCase
need_cases =
    record { body = Need (at (codes "a")) 0 Lt (pos 10) ∷ []; ends = declined } ∷
    record { body = Need (at (codes "a")) 0 Lt (pos 11) ∷ []; ends = wrote [] } ∷
    record { body = Need (at (codes "a")) 0 Le (pos 9) ∷ []; ends = declined } ∷
    record { body = Need (at (codes "a")) 0 Le (pos 10) ∷ []; ends = wrote [] } ∷
    record { body = Need (at (codes "a")) 0 Eq (pos 9) ∷ []; ends = declined } ∷
    record { body = Need (at (codes "a")) 0 Eq (pos 10) ∷ []; ends = wrote [] } ∷
    record { body = Need (at (codes "b")) 0 Ge (negsuc 1) ∷ []; ends = declined } ∷
    record { body = Need (at (codes "b")) 0 Ge (negsuc 2) ∷ []; ends = wrote [] } ∷
    record { body = Need (at (codes "b")) 0 Gt (negsuc 2) ∷ []; ends = declined } ∷
    record { body = Need (at (codes "b")) 0 Gt (negsuc 3) ∷ []; ends = wrote [] } ∷
    record { body = Need (at (codes "z")) 0 Le (pos 0) ∷ []; ends = declined } ∷
    []

-- statements one after the other: each sees the writes of those before it
abbrev pub sequence_cases : List BodyCase
sequence_cases =
    -- one write for a row that is written twice
    record {
      body = Put (at (codes "c")) (int_row (pos 7)) ∷ Add (at (codes "c")) 0 (pos 1) ∷ [];
      ends = wrote (put_of (codes "c") (pos 8) ∷ []);
    } ∷
    -- the second declines, and takes the write of the first with it
    record {
      body = Put (at (codes "c")) (int_row (pos 7)) ∷ Add (at (codes "z")) 0 (pos 1) ∷ [];
      ends = declined;
    } ∷
    -- the writes ascend by name
    record {
      body = Put (at (codes "c")) (int_row (pos 1)) ∷ Put (at (codes "a")) (int_row (pos 2)) ∷ [];
      ends = wrote (put_of (codes "a") (pos 2) ∷ put_of (codes "c") (pos 1) ∷ []);
    } ∷
    -- a row that the body itself has deleted
    record {
      body = Del (at (codes "a")) ∷ Need (at (codes "a")) 0 Eq (pos 10) ∷ [];
      ends = declined;
    } ∷
    []

-- two bodies: `c` becomes 7; and `c` grows by 1
abbrev pub run_bodies : List (List Statement)
run_bodies = (Put (at (codes "c")) (int_row (pos 7)) ∷ []) ∷ (Add (at (codes "c")) 0 (pos 1) ∷ [])
    ∷ []

-- the first before the second
abbrev pub run_in_order : List Txn
run_in_order =
    record { script = 0; stamp = 1; writes = put_of (codes "c") (pos 7) ∷ [] }
    ∷ record { script = 1; stamp = 2; writes = put_of (codes "c") (pos 8) ∷ [] }
    ∷ []

-- the second, which then declines, before the first
abbrev pub run_reversed : List Txn
run_reversed =
    record { script = 1; stamp = 1; writes = [] }
    ∷ record { script = 0; stamp = 2; writes = put_of (codes "c") (pos 7) ∷ [] }
    ∷ []

-- a row, an absent row, and a sum with a repeated key and an absent row
abbrev pub read_block : ReadParts
read_block =
    record {
      session = 1;
      lines = OneRow (at (codes "b")) ∷ OneRow (at (codes "z"))
          ∷ SumOf 0 0 (codes "a" ∷ codes "z" ∷ codes "b" ∷ codes "a" ∷ []) ∷ [];
    }

abbrev pub read_answer : List AnswerLine
read_answer = Found (at (codes "b")) (int_row (negsuc 2)) ∷ Absent (at (codes "z")) ∷ Sum (pos 17)
    ∷ []

-- bodies with four statements that write, of two rows
abbrev pub counted_bodies : List (List Statement)
counted_bodies =
    (Put (at (codes "a")) (int_row (pos 1)) ∷ Need (at (codes "c")) 0 Eq (pos 1)
    ∷ Add (at (codes "a")) 0 (pos 1) ∷ [])
    ∷ []
    ∷ (Copy (at (codes "c")) (at (codes "b")) ∷ Del (at (codes "a")) ∷ [])
    ∷ []
