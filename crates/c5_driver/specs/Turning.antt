-- What `turns` prints of a log.
use Rattle.std.specs.Prelude.{◌≡◌, ◌++◌, ℕ, List}
use Rattle.c5_rows.specs.declared.writes.Txn.{Txn}
use Rattle.c5_definitions.specs.Outputs.{backup_text}
use Rattle.c5_definitions.specs.ScriptParts.{ScriptParts}
use Rattle.c5_definitions.specs.TurnTexts.{schedule_run, put_off_text}

-- the text grew by the replies at the places of the script's schedule, the rows after all
-- transactions, and how many writes the schedule put off
pub record PrintsTurns (script : ScriptParts) (txns : List Txn) (workers : ℕ)
    (old new : List ℕ) : Type 0 where
  pub printed : new ≡ old ++ backup_text script txns (schedule_run script txns workers).places
      ++ put_off_text (schedule_run script txns workers).put_off
