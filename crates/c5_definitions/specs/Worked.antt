-- Two logs and the texts of their rows, worked by hand.
use Rattle.std.specs.Prelude.{ℕ, List, [], ◌∷◌, ◌++◌, pos, negsuc, codes}
use Rattle.c5_rows.specs.declared.cells.CellType.TheVariants as types
use Rattle.c5_rows.specs.declared.cells.Cell.TheVariants.{Int, Txt}
use Rattle.c5_rows.specs.declared.tables.TableDef.{TableDef}
use Rattle.c5_rows.specs.declared.writes.Change.TheVariants.{Put}
use Rattle.c5_rows.specs.declared.writes.Txn.{Txn}

-- one table, `acct`, of one Int column
abbrev pub worked_tables : List TableDef
worked_tables = record { name = codes "acct"; columns = types.Int ∷ [] } ∷ []

-- one transaction, which puts 10 into the row `a`
abbrev pub worked_txns : List Txn
worked_txns =
    record {
      script = 0;
      stamp = 1;
      writes = record {
        name = record { table = 0; key = codes "a" };
        change = Put (Int (pos 10) ∷ []);
      } ∷ [];
    } ∷ []

-- its 59 bytes, part by part
abbrev pub worked_bytes : List ℕ
worked_bytes =
    0x43 ∷ 0x35 ∷ 0x4C ∷ 0x31 ∷ 0x01 ∷ 0x04 ∷ 0x61 ∷ 0x63 ∷ 0x63 ∷ 0x74 ∷ 0x01 ∷ 0x01
    ∷ 0x00 ∷ 0x00 ∷ 0x00 ∷ 0x0D ∷ 0x57 ∷ 0x00 ∷ 0x01 ∷ 0x61 ∷ 0x00 ∷ 0x00 ∷ 0x00 ∷ 0x00 ∷ 0x00
    ∷ 0x00 ∷ 0x00 ∷ 0x00 ∷ 0x0A
    ∷ 0x00 ∷ 0x00 ∷ 0x00 ∷ 0x11 ∷ 0x43 ∷ 0x00 ∷ 0x00 ∷ 0x00 ∷ 0x00 ∷ 0x00 ∷ 0x00 ∷ 0x00 ∷ 0x00
    ∷ 0x00 ∷ 0x00 ∷ 0x00 ∷ 0x01 ∷ 0x00 ∷ 0x00 ∷ 0x00 ∷ 0x01
    ∷ 0x00 ∷ 0x00 ∷ 0x00 ∷ 0x05 ∷ 0x45 ∷ 0x00 ∷ 0x00 ∷ 0x00 ∷ 0x01 ∷ []

-- the text of its rows
abbrev pub worked_text : List ℕ
worked_text = codes "acct a 10\nrows 1\n"

-- one table, `t`, of a Text and an Int column
abbrev pub text_tables : List TableDef
text_tables = record { name = codes "t"; columns = types.Text ∷ types.Int ∷ [] } ∷ []

-- one transaction, which puts `hello world` and -5 into the row `k`
abbrev pub text_txns : List Txn
text_txns =
    record {
      script = 0;
      stamp = 1;
      writes = record {
        name = record { table = 0; key = codes "k" };
        change = Put (Txt (codes "hello world") ∷ Int (negsuc 4) ∷ []);
      } ∷ [];
    } ∷ []

-- its 69 bytes, part by part
abbrev pub text_bytes : List ℕ
text_bytes =
    0x43 ∷ 0x35 ∷ 0x4C ∷ 0x31 ∷ 0x01 ∷ 0x01 ∷ 0x74 ∷ 0x02 ∷ 0x02 ∷ 0x01
    ∷ 0x00 ∷ 0x00 ∷ 0x00 ∷ 0x19 ∷ 0x57 ∷ 0x00 ∷ 0x01 ∷ 0x6B ∷ 0x00
    ∷ 0x0B ∷ 0x68 ∷ 0x65 ∷ 0x6C ∷ 0x6C ∷ 0x6F ∷ 0x20 ∷ 0x77 ∷ 0x6F ∷ 0x72 ∷ 0x6C ∷ 0x64
    ∷ 0xFF ∷ 0xFF ∷ 0xFF ∷ 0xFF ∷ 0xFF ∷ 0xFF ∷ 0xFF ∷ 0xFB
    ∷ 0x00 ∷ 0x00 ∷ 0x00 ∷ 0x11 ∷ 0x43 ∷ 0x00 ∷ 0x00 ∷ 0x00 ∷ 0x00 ∷ 0x00 ∷ 0x00 ∷ 0x00 ∷ 0x00
    ∷ 0x00 ∷ 0x00 ∷ 0x00 ∷ 0x01 ∷ 0x00 ∷ 0x00 ∷ 0x00 ∷ 0x01
    ∷ 0x00 ∷ 0x00 ∷ 0x00 ∷ 0x05 ∷ 0x45 ∷ 0x00 ∷ 0x00 ∷ 0x00 ∷ 0x01 ∷ []

-- the text of its rows
abbrev pub text_text : List ℕ
text_text = codes "t k " ++ 34 ∷ codes "hello world" ++ 34 ∷ codes " -5\nrows 1\n"
