-- What a replay prints.
use Rattle.std.specs.Prelude.{◌≡◌, ◌++◌, ℕ, List, length}
use Rattle.c5_rows.specs.State.{State, after_txns}
use Rattle.c5_rows.specs.declared.answer.Reply.{Reply}
use Rattle.c5_rows.specs.declared.writes.Txn.{Txn}
use Rattle.c5_definitions.specs.Outputs.{backup_text, no_rows}
use Rattle.c5_definitions.specs.Replies.{AreLawfulPlaces, in_reply_order, replies_at}
use Rattle.c5_definitions.specs.ScriptParts.{ScriptParts}

-- the replies are those at some lawful places, and the rows those after all transactions
pub record IsReplayOver (script : ScriptParts) (txns : List Txn) (replies : List Reply)
    (rows : State) : Type 0 where
  pub places : List ℕ
  pub lawful : AreLawfulPlaces (in_reply_order script.reads) (length txns) places
  pub replied : replies ≡ replies_at no_rows txns (in_reply_order script.reads) places
  pub after : rows ≡ after_txns txns no_rows

-- the text grew by the replies at some lawful places, and the rows after all transactions
pub record PrintsReplay (script : ScriptParts) (txns : List Txn) (old new : List ℕ) : Type 0 where
  pub places : List ℕ
  pub lawful : AreLawfulPlaces (in_reply_order script.reads) (length txns) places
  pub printed : new ≡ old ++ backup_text script txns places
