-- A log as it lies in memory.
use Rattle.std.specs.Prelude.{ℕ, List}
use Rattle.c5_rows.specs.declared.tables.TableDef.{TableDef}
use Rattle.c5_rows.specs.declared.writes.Txn.{Txn}

-- its bytes, its tables, its transactions
pub record Log : Type 0 where
  pub bytes : List ℕ
  pub tables : List TableDef
  pub txns : List Txn
