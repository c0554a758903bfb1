-- What has been read of a script.
use Rattle.std.specs.Prelude.{ℕ, ◌==◌, ◌&&◌, Bool, true, false, not, List, [], length}
use Rattle.c5_rows.specs.declared.tables.TableDef.{TableDef}
use Rattle.c5_definitions.specs.declared.script.Statement.{Statement}
use Rattle.c5_definitions.specs.declared.script.ReadLine.{ReadLine}
use Rattle.c5_definitions.specs.declared.script.TurnWord.{TurnWord}
use Rattle.c5_definitions.specs.ScriptParts.{ReadParts, ScriptParts}

-- the open block: none, a transaction with its statements, or a read block with its session and its
-- lines
pub data Block : Type 0 where
  outside : Block
  in_txn : (statements : List Statement) → Block
  in_read : (session : ℕ) (lines : List ReadLine) → Block

-- the tables, the bodies, the read blocks and the schedule so far, and the open block
pub record ScriptSoFar : Type 0 where
  pub tables : List TableDef
  pub bodies : List (List Statement)
  pub reads : List ReadParts
  pub turns : List TurnWord
  pub block : Block

-- before the first line
abbrev pub script_start : ScriptSoFar
script_start = record { tables = []; bodies = []; reads = []; turns = []; block = outside }

abbrev pub is_outside : Block → Bool
is_outside outside = true
is_outside (in_txn statements) = false
is_outside (in_read session lines) = false

-- there is a table
abbrev pub has_table : ScriptSoFar → Bool
has_table s = not (length s.tables == 0)

-- no transaction, read block or schedule was accepted
abbrev pub is_heading : ScriptSoFar → Bool
is_heading s = length s.bodies == 0 && (length s.reads == 0) && (length s.turns == 0)

-- a script may end here: no block is open, and there is a table
unfoldable pub is_closed : ScriptSoFar → Bool
is_closed s = is_outside s.block && has_table s

-- the script that ends here
abbrev pub parts_of : ScriptSoFar → ScriptParts
parts_of s = record { tables = s.tables; bodies = s.bodies; reads = s.reads; turns = s.turns }
