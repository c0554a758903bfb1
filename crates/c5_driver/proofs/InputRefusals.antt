-- Why a script or a log is refused, and when it is not.
use Rattle.std.proofs.Common.{◌≡◌, ℕ, List, Option, Some, None, Ok, Err, Result, Bool, true, false}
use Rattle.std.proofs.Common.{ap, refl, sym, subst, ◌∙◌}
use Rattle.std.specs.Prelude.{option_map, if◌then◌else◌}
use Rattle.c5_rows.specs.declared.tables.TableDef.{TableDef}
use Rattle.c5_definitions.specs.declared.fault.LogFault.{LogFault}
use Rattle.c5_definitions.specs.declared.script.ScriptFault.{ScriptFault}
use Rattle.c5_definitions.specs.Items.{LogParts, log_of}
use Rattle.c5_definitions.specs.ScriptParts.{ScriptParts}
use Rattle.c5_definitions.specs.Script.{script_of, front_of}
use Rattle.c5_definitions.specs.declared.limits.Excess.{Excess}
use Rattle.c5_driver.specs.declared.refusal.Refusal.{Refusal}
use Rattle.c5_driver.specs.declared.refusal.Refusal.TheVariants.{BadLog, BadScript, Limit}
use Rattle.c5_definitions.specs.Limits.{excess_of}
use Rattle.c5_driver.specs.Inputs.{IsRefusedBy}
use Rattle.c5_driver.specs.LogLimits.{excess_of_log}
use Rattle.c5_driver.specs.SameTables.{are_same_tables}
use Rattle.c5_driver.specs.Meanings.{script_refusal, log_refusal, log_refusal_over, backup_refusal}
use Rattle.c5_driver.specs.Meanings.{other_tables, IsFaultOf}

-- ---- scripts

-- the refusal of a script that was read, or has a fault
abbrev refusal_from : Result ScriptParts ScriptFault → Option Refusal
refusal_from (Err fault) = Some (BadScript fault)
refusal_from (Ok script) = option_map Limit (excess_of script)

script_refusal-from : (input : List ℕ) → script_refusal input ≡ refusal_from (script_of input)
script_refusal-from input = refl

pub refused-limit : (input : List ℕ) (script : ScriptParts) (excess : Excess)
    → script_of input ≡ Ok script → excess_of script ≡ Some excess
    → script_refusal input ≡ Some (Limit excess)
refused-limit input script excess read passed =
    script_refusal-from input ∙ ap refusal_from read ∙ ap (option_map Limit) passed

pub script-accepted : (input : List ℕ) (script : ScriptParts) → script_of input ≡ Ok script
    → excess_of script ≡ None → script_refusal input ≡ None
script-accepted input script read within =
    script_refusal-from input ∙ ap refusal_from read ∙ ap (option_map Limit) within

-- ---- logs

abbrev log_from : Result LogParts LogFault → Option Refusal
log_from (Err fault) = Some (BadLog fault)
log_from (Ok log) = option_map Limit (excess_of_log log.txns)

log_refusal-from : (input : List ℕ) → log_refusal input ≡ log_from (log_of input)
log_refusal-from input = refl

-- a log with a fault is refused for it
pub log-faulty : (input : List ℕ) (refusal : Refusal) → IsFaultOf input refusal
    → IsRefusedBy (log_refusal input) refusal
log-faulty input refusal h = subst (IsRefusedBy (log_refusal input)) (sym h.is)
    (log_refusal-from input ∙ ap log_from h.read)

-- a log without one is refused for a limit
pub log-limits : (input : List ℕ) (log : LogParts) → log_of input ≡ Ok log
    → log_refusal input ≡ option_map Limit (excess_of_log log.txns)
log-limits input log read = log_refusal-from input ∙ ap log_from read

-- ---- logs over tables

abbrev over_from : List TableDef → Result LogParts LogFault → Option Refusal
over_from tables (Err fault) = Some (BadLog fault)
over_from tables (Ok log) = if are_same_tables tables log.tables
    then option_map Limit (excess_of_log log.txns) else Some (BadLog other_tables)

over-from : (tables : List TableDef) (input : List ℕ)
    → log_refusal_over tables input ≡ over_from tables (log_of input)
over-from tables input = refl

pub over-faulty : (tables : List TableDef) (input : List ℕ) (refusal : Refusal)
    → IsFaultOf input refusal → IsRefusedBy (log_refusal_over tables input) refusal
over-faulty tables input refusal h =
    subst (IsRefusedBy (log_refusal_over tables input)) (sym h.is)
    (over-from tables input ∙ ap (over_from tables) h.read)

pub over-others : (tables : List TableDef) (input : List ℕ) (log : LogParts) → log_of input ≡ Ok log
    → are_same_tables tables log.tables ≡ false
    → log_refusal_over tables input ≡ Some (BadLog other_tables)
over-others tables input log read same =
    over-from tables input ∙ ap (over_from tables) read ∙ ap
    (λ (b : Bool). if b then option_map Limit (excess_of_log log.txns)
    else Some (BadLog other_tables)) same

pub over-limits : (tables : List TableDef) (input : List ℕ) (log : LogParts) → log_of input ≡ Ok log
    → are_same_tables tables log.tables ≡ true
    → log_refusal_over tables input ≡ option_map Limit (excess_of_log log.txns)
over-limits tables input log read same =
    over-from tables input ∙ ap (over_from tables) read ∙ ap
    (λ (b : Bool). if b then option_map Limit (excess_of_log log.txns)
    else Some (BadLog other_tables)) same

-- ---- scripts and logs

abbrev front_from_of : Result (ScriptParts × List ℕ) ScriptFault → Option Refusal
front_from_of (Err fault) = Some (BadScript fault)
front_from_of (Ok front) = log_refusal_over front.0.tables front.1

pub backup-from : (input : List ℕ) (read : Result (ScriptParts × List ℕ) ScriptFault)
    → front_of input ≡ read → backup_refusal input ≡ front_from_of read
backup-from input read e = ap front_from_of e
