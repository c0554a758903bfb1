-- What each command makes of an input: why it refuses it, and the text that it prints.
use Rattle.std.specs.Prelude.{◌≡◌, ◌≤◌, ℕ, List, length, Option, Some, None, option_map, Ok, Err}
use Rattle.std.specs.Prelude.{Result, Vec, if◌then◌else◌}
use Rattle.std.specs.FinMap.{empty}
use Rattle.std.specs.declared.alloc.Global.{Global}
use Rattle.c5_rows.specs.declared.tables.TableDef.{TableDef}
use Rattle.c5_rows.specs.declared.writes.Txn.{Txn}
use Rattle.c5_rows.specs.Order.{row_name_cmp}
use Rattle.c5_rows.specs.State.{state_after}
use Rattle.c5_definitions.specs.Lawful.{Spells}
use Rattle.c5_definitions.specs.Items.{log_of}
use Rattle.c5_definitions.specs.Outputs.{backup_text}
use Rattle.c5_definitions.specs.Replies.{AreLawfulPlaces, in_reply_order}
use Rattle.c5_definitions.specs.declared.fault.LogFault.{LogFault}
use Rattle.c5_definitions.specs.declared.fault.LogKind.TheVariants.{Header}
use Rattle.c5_definitions.specs.Texts.{rows_text}
use Rattle.c5_definitions.specs.ScriptParts.{ScriptParts}
use Rattle.c5_definitions.specs.Script.{script_of, front_of}
use Rattle.c5_definitions.specs.SerialRun.{SerialRun}
use Rattle.c5_definitions.specs.TurnTexts.{turns_text}
use Rattle.c5_words.specs.declared.command.Command.{Command}
use Rattle.c5_words.specs.declared.command.Command.TheVariants.{Apply, Primary, Backup, Clone}
use Rattle.c5_words.specs.declared.command.Command.TheVariants.{Turns}
use Rattle.c5_words.specs.declared.options.Options.{Options}
use Rattle.c5_driver.specs.declared.refusal.Refusal.{Refusal}
use Rattle.c5_driver.specs.declared.refusal.Refusal.TheVariants.{BadLog, BadScript, Limit}
use Rattle.c5_driver.specs.Commands.{input_limit}
use Rattle.c5_definitions.specs.Limits.{excess_of}
use Rattle.c5_driver.specs.Cloning.{IsCloneOf}
use Rattle.c5_driver.specs.Inputs.{ReadsInput}
use Rattle.c5_driver.specs.LogLimits.{excess_of_log}
use Rattle.c5_driver.specs.SameTables.{are_same_tables}
use Rattle.c5_driver.specs.Uses.{SourceUse}

-- ---- refused inputs

-- the refusal is the first fault of bytes that should be a log
pub record IsFaultOf (input : List ℕ) (refusal : Refusal) : Type 0 where
  pub fault : LogFault
  pub read : log_of input ≡ Err fault
  pub is : refusal ≡ BadLog fault

-- why bytes that should be a log are refused: their first fault, or else the first limit that the
-- log exceeds
abbrev pub log_refusal : List ℕ → Option Refusal
log_refusal input = elim (log_of input) [
  | Err fault ↦ Some (BadLog fault)
  | Ok log ↦ option_map Limit (excess_of_log log.txns)
]

-- the fault of a log whose tables aren't those of the script: at the byte after the magic
abbrev pub other_tables : LogFault
other_tables = record { offset = 4; kind = Header }

-- why bytes that should be a log over a script's tables are refused: their first fault, or else
-- that the log has other tables, or else the first limit that it exceeds
abbrev pub log_refusal_over : List TableDef → List ℕ → Option Refusal
log_refusal_over tables input = elim (log_of input) [
  | Err fault ↦ Some (BadLog fault)
  | Ok log ↦ if are_same_tables tables log.tables then option_map Limit (excess_of_log log.txns)
      else Some (BadLog other_tables)
]

-- why bytes that should be a script are refused: their first fault, or else the first limit that
-- the script exceeds
abbrev pub script_refusal : List ℕ → Option Refusal
script_refusal input = elim (script_of input) [
  | Err fault ↦ Some (BadScript fault)
  | Ok script ↦ option_map Limit (excess_of script)
]

-- why bytes that should be a script and a log are refused: the first fault of the script, or else
-- why the log is refused, whose offsets count from its own first byte
abbrev pub backup_refusal : List ℕ → Option Refusal
backup_refusal input = elim (front_of input) [
  | Err fault ↦ Some (BadScript fault)
  | Ok front ↦ log_refusal_over front.0.tables front.1
]

-- why a command refuses an input for what it is
abbrev pub input_refusal : Command → List ℕ → Option Refusal
input_refusal Apply input = log_refusal input
input_refusal Primary input = script_refusal input
input_refusal Backup input = backup_refusal input
input_refusal Clone input = script_refusal input
input_refusal Turns input = script_refusal input

-- the bytes are the script, which exceeds no limit
pub record IsScriptWithin (input : List ℕ) (script : ScriptParts) : Type 0 where
  pub read : script_of input ≡ Ok script
  pub within : excess_of script ≡ None

-- the input is within the command's limit, and is not refused for what it is
pub record IsAccepted (command : Command) (input : List ℕ) : Type 0 where
  pub within : length input ≤ input_limit command
  pub clean : input_refusal command input ≡ None

-- ---- texts

-- the input is a log, and the text is that of all rows after the whole of it
pub record IsRowsAfter (input text : List ℕ) : Type 0 where
  pub tables : List TableDef
  pub txns : List Txn
  pub log : Spells input tables txns
  pub rows : text ≡ rows_text tables (state_after (empty {R = row_name_cmp}) txns (length txns))

-- the input is a script, and the text is a log of a serial run of its bodies from no rows
pub record IsLogOfRun (input text : List ℕ) : Type 0 where
  pub script : ScriptParts
  pub txns : List Txn
  pub read : script_of input ≡ Ok script
  pub run : SerialRun script.bodies (empty {R = row_name_cmp}) txns
  pub log : Spells text script.tables txns

-- bytes are a log over the script's tables, and the text has the replies to the script's reads at
-- some lawful places of the log, and all rows after the whole log
pub record IsBackupOf (script : ScriptParts) (bytes text : List ℕ) : Type 0 where
  pub txns : List Txn
  pub places : List ℕ
  pub log : Spells bytes script.tables txns
  pub lawful : AreLawfulPlaces (in_reply_order script.reads) (length txns) places
  pub printed : text ≡ backup_text script txns places

-- the input is a script and a log, and the text is that of a backup of the log
pub record IsBackup (input text : List ℕ) : Type 0 where
  pub script : ScriptParts
  pub rest : List ℕ
  pub front : front_of input ≡ Ok (script, rest)
  pub printed : IsBackupOf script rest text

-- the input is a script, and the text is that of a clone of it
pub record IsClone (input text : List ℕ) : Type 0 where
  pub script : ScriptParts
  pub read : script_of input ≡ Ok script
  pub printed : IsCloneOf script text

-- the input is a script, and the text is that of its schedule with so many workers: the order 0, 1,
-- 2 and so on, the replies at the places at which the schedule takes the reads, all rows after the
-- run, and how many writes the schedule puts off
pub record IsTurns (workers : ℕ) (input text : List ℕ) : Type 0 where
  pub script : ScriptParts
  pub read : script_of input ≡ Ok script
  pub printed : text ≡ turns_text script workers

-- the text that a command makes of an input
abbrev pub IsTextOf : Command → Options → List ℕ → List ℕ → Type 0
IsTextOf Apply options input text = IsRowsAfter input text
IsTextOf Primary options input text = IsLogOfRun input text
IsTextOf Backup options input text = IsBackup input text
IsTextOf Clone options input text = IsClone input text
IsTextOf Turns options input text = IsTurns options.workers input text

-- a command makes its text of the whole input, or refuses the input
abbrev pub MakesText : Command → Options → SourceUse → Result (Vec ℕ Global) Refusal → Type 0
MakesText command options source result =
    ReadsInput (input_limit command) (input_refusal command)
    (λ input text. IsTextOf command options input text.items) source result
