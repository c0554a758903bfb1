-- A log that follows a script.
use Rattle.std.specs.Prelude.{◌≡◌, ℕ, true, List, Ok}
use Rattle.c5_rows.specs.declared.tables.TableDef.{TableDef}
use Rattle.c5_definitions.specs.Items.{log_of}
use Rattle.c5_definitions.specs.Lawful.{Spells}
use Rattle.c5_definitions.specs.Script.{front_of}
use Rattle.c5_definitions.specs.ScriptParts.{ScriptParts}
use Rattle.c5_frames.specs.Log.{Log}
use Rattle.c5_driver.specs.SameTables.{are_same_tables}

-- the log is that of the bytes, and has these tables
pub record IsLogOver (tables : List TableDef) (bytes : List ℕ) (log : Log) : Type 0 where
  pub tables_are : tables ≡ log.tables
  pub same : are_same_tables tables log.tables ≡ true
  pub read : log_of bytes ≡ Ok (record { tables = log.tables; txns = log.txns })
  pub spelled : Spells bytes tables log.txns

-- the bytes are the script, and then the log over its tables
pub record AreScriptAndLog (bytes : List ℕ) (script : ScriptParts) (log : Log) : Type 0 where
  pub rest : List ℕ
  pub front : front_of bytes ≡ Ok (script, rest)
  pub over : IsLogOver script.tables rest log
