-- What a script is made of, as plain lists.
use Rattle.std.specs.Prelude.{ℕ, List}
use Rattle.c5_rows.specs.declared.tables.TableDef.{TableDef}
use Rattle.c5_definitions.specs.declared.script.Statement.{Statement}
use Rattle.c5_definitions.specs.declared.script.ReadLine.{ReadLine}
use Rattle.c5_definitions.specs.declared.script.TurnWord.{TurnWord}

-- a read block: who asks, and for what
pub record ReadParts : Type 0 where
  pub session : ℕ
  pub lines : List ReadLine

-- the tables, the bodies of transactions, the read blocks and the schedule
pub record ScriptParts : Type 0 where
  pub tables : List TableDef
  pub bodies : List (List Statement)
  pub reads : List ReadParts
  pub turns : List TurnWord
