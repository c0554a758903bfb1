-- The script that a count alone determines: opening puts, and transfers between accounts by draws.
use Rattle.std.specs.Prelude.{◌+◌, ◌*◌, ◌/◌, ◌%◌, ◌^◌, ℕ, zero, suc, pos, neg_ℤ, codes, List, []}
use Rattle.std.specs.Prelude.{◌∷◌, map}
use Rattle.std.specs.List.{range_with_len}
use Rattle.c5_rows.specs.declared.cells.CellType.TheVariants as types
use Rattle.c5_rows.specs.declared.cells.Cell.{Cell}
use Rattle.c5_rows.specs.declared.cells.Cell.TheVariants.{Int}
use Rattle.c5_rows.specs.declared.tables.TableDef.{TableDef}
use Rattle.c5_rows.specs.declared.writes.RowName.{RowName}
use Rattle.c5_definitions.specs.declared.script.Rel.TheVariants.{Ge}
use Rattle.c5_definitions.specs.declared.script.Statement.{Statement}
use Rattle.c5_definitions.specs.declared.script.Statement.TheVariants.{Put, Need, Add}
use Rattle.c5_definitions.specs.declared.script.ReadLine.{ReadLine}
use Rattle.c5_definitions.specs.declared.script.ReadLine.TheVariants.{SumOf}
use Rattle.c5_definitions.specs.ScriptParts.{ReadParts, ScriptParts}

-- ---- accounts

-- how many accounts there are, and what each has at first
abbrev pub account_count : ℕ
account_count = 64

abbrev pub opening_balance : ℕ
opening_balance = 1000

-- the table `acct` of one Int column
abbrev pub generated_tables : List TableDef
generated_tables = record { name = codes "acct"; columns = types.Int ∷ [] } ∷ []

-- `a` and two digits
abbrev pub account_key : ℕ → List ℕ
account_key number = 97 ∷ (48 + number / 10) ∷ (48 + number % 10) ∷ []

-- the row of an account
abbrev pub account : ℕ → RowName
account number = record { table = 0; key = account_key number }

-- the row of a balance
abbrev pub balance_row : ℕ → List Cell
balance_row balance = Int (pos balance) ∷ []

-- ---- transactions

-- a draw after another, by a linear congruence with a modulus of 64 bits
abbrev pub next_draw : ℕ → ℕ
next_draw x = (x * 6364136223846793005 + 1442695040888963407) % 2 ^ 64

-- the draw of this number; they count from 1, and start from 1
unfoldable pub draw : ℕ → ℕ
draw zero = 1
draw (suc n) = next_draw (draw n)

-- an amount from one account to another
pub record Transfer : Type 0 where
  pub from : ℕ
  pub to : ℕ
  pub amount : ℕ

-- the account after another by 1 to 63 steps, with the first after the last
abbrev pub account_after : ℕ → ℕ → ℕ
account_after from steps = (from + 1 + steps % 63) % account_count

-- what a draw moves: 1 to 100, between two accounts
abbrev pub transfer_of : ℕ → Transfer
transfer_of x =
    record {
      from = x / 2 ^ 58;
      to = account_after (x / 2 ^ 58) (x / 2 ^ 40);
      amount = 1 + (x / 2 ^ 20) % 100;
    }

-- each account gets its first balance
abbrev pub opening_body : List Statement
opening_body =
    map (λ number. Put (account number) (balance_row opening_balance))
    (range_with_len 0 account_count)

-- the amount moves if the first account has it, and else nothing does
abbrev pub transfer_body : Transfer → List Statement
transfer_body t =
    Need (account t.from) 0 Ge (pos t.amount)
    ∷ Add (account t.from) 0 (neg_ℤ (pos t.amount))
    ∷ Add (account t.to) 0 (pos t.amount)
    ∷ []

-- the body of this number: transfers follow the opening, one for each draw
abbrev pub generated_body : ℕ → List Statement
generated_body zero = opening_body
generated_body (suc n) = transfer_body (transfer_of (draw (suc n)))

abbrev pub generated_bodies : ℕ → List (List Statement)
generated_bodies count = map generated_body (range_with_len 0 count)

-- ---- reads

-- the sum over 16 accounts
abbrev pub sum_from : ℕ → ReadLine
sum_from first = SumOf 0 0 (map account_key (range_with_len first 16))

-- all accounts, in four sums
abbrev pub read_all_by : ℕ → ReadParts
read_all_by session =
    record { session = session; lines = sum_from 0 ∷ sum_from 16 ∷ sum_from 32 ∷ sum_from 48 ∷ [] }

-- 16 reads: the sessions 1, 2, 3 and 4, four times over
abbrev pub generated_reads : List ReadParts
generated_reads = map (λ block. read_all_by (1 + block % 4)) (range_with_len 0 16)

-- ---- the script

-- the tables, so many bodies, the reads, and no schedule
unfoldable pub generated_script : ℕ → ScriptParts
generated_script count =
    record {
      tables = generated_tables;
      bodies = generated_bodies count;
      reads = generated_reads;
      turns = [];
    }
