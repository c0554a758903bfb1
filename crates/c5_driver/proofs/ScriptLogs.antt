-- A script and a log, and what a backup prints of them.
use Rattle.std.proofs.Common.{◌≡◌, ◌∙◌, ℕ, List, [], None, Ok, ap, sym, subst}
use Rattle.std.specs.Prelude.{Option, option_map}
use Rattle.c5_definitions.specs.ScriptParts.{ScriptParts}
use Rattle.c5_frames.specs.Log.{Log}
use Rattle.c5_driver.specs.Backups.{AreScriptAndLog}
use Rattle.c5_driver.specs.Inputs.{IsRefusedBy}
use Rattle.c5_driver.specs.LogLimits.{excess_of_log}
use Rattle.c5_driver.specs.Meanings.{backup_refusal, IsBackup}
use Rattle.c5_driver.specs.Replaying.{PrintsReplay}
use Rattle.c5_driver.specs.declared.refusal.Refusal.{Refusal}
use Rattle.c5_driver.specs.declared.refusal.Refusal.TheVariants.{Limit}
use Rattle.c5_driver.proofs.InputRefusals.{backup-from, over-limits}

-- a script and a log over its tables are refused for a limit alone
pub backup-limits : (input : List ℕ) (script : ScriptParts) (log : Log)
    → AreScriptAndLog input script log
    → backup_refusal input ≡ option_map Limit (excess_of_log log.txns)
backup-limits input script log h =
    backup-from input (Ok (script, h.rest)) h.front
    ∙ over-limits script.tables h.rest (record { tables = log.tables; txns = log.txns })
    h.over.read h.over.same

pub backup-accepted : (input : List ℕ) (script : ScriptParts) (log : Log)
    → AreScriptAndLog input script log → excess_of_log log.txns ≡ None
    → backup_refusal input ≡ None
backup-accepted input script log h within =
    backup-limits input script log h ∙ ap (option_map Limit) within

pub backup-refused : (input : List ℕ) (script : ScriptParts) (log : Log) (refusal : Refusal)
    → AreScriptAndLog input script log
    → IsRefusedBy (option_map Limit (excess_of_log log.txns)) refusal
    → IsRefusedBy (backup_refusal input) refusal
backup-refused input script log refusal h refused =
    subst (λ (o : Option Refusal). IsRefusedBy o refusal) (sym (backup-limits input script log h))
    refused

pub is-backup : (input text : List ℕ) (script : ScriptParts) (log : Log)
    → AreScriptAndLog input script log → PrintsReplay script log.txns [] text
    → IsBackup input text
is-backup input text script log h prints =
    record {
      script = script;
      rest = h.rest;
      front = h.front;
      printed =
          record {
            txns = log.txns;
            places = prints.places;
            log = h.over.spelled;
            lawful = prints.lawful;
            printed = prints.printed;
          };
    }
