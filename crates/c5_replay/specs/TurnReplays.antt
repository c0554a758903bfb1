-- What a replay by a schedule gives.
use Rattle.std.specs.Prelude.{◌≡◌, ◌≤◌, ◌==◌, ℕ, Bool, true, false, not, List, [], ◌∷◌, length}
use Rattle.std.specs.Prelude.{Option, Some, None, if◌then◌else◌}
use Rattle.std.specs.List.{count_by}
use Rattle.c5_rows.specs.Numbers.{numbers_from}
use Rattle.c5_rows.specs.State.{State, after_txns}
use Rattle.c5_rows.specs.declared.answer.Reply.{Reply}
use Rattle.c5_rows.specs.declared.writes.RowName.{RowName}
use Rattle.c5_rows.specs.declared.writes.Txn.{Txn}
use Rattle.c5_definitions.specs.declared.script.TurnWord.{TurnWord}
use Rattle.c5_definitions.specs.Replies.{in_reply_order, replies_at}
use Rattle.c5_definitions.specs.ScriptParts.{ReadParts}
use Rattle.c5_definitions.specs.Turns.{turn_run, turn_start, after_words, after_closing}
use Rattle.c5_definitions.specs.Turns.{is_all_done}
use Rattle.c5_definitions.specs.WriteNumbers.{names_in, predecessor_of}
use Rattle.c5_frames.specs.Log.{Log}
use Rattle.c5_board.specs.declared.known.Look.{Look}
use Rattle.c5_board.specs.declared.known.Look.TheVariants.{LoadHead, ExchangeHead, LoadProgress}
use Rattle.c5_board.specs.declared.known.Look.TheVariants.{LoadVisible, LoadRecord, LoadScheduled}
use Rattle.c5_board.specs.declared.known.Look.TheVariants.{LoadBucket}

-- what a schedule comes to: its places and its count, the replies at these places, and the rows
-- after the whole log
pub record IsTurnReplay (log : Log) (workers : ℕ) (start : State) (reads : List ReadParts)
    (turns : List TurnWord) (replies : List Reply) (rows : State) (put_off : ℕ) : Type 0 where
  pub replied : replies ≡ replies_at start log.txns (in_reply_order reads)
      (turn_run log.txns workers reads turns).places
  pub after : rows ≡ after_txns log.txns start
  pub count : put_off ≡ (turn_run log.txns workers reads turns).put_off

-- ---- exchanges

-- the head that this look found if it is an exchange of w's row for w; else what others found
abbrev pub found_or : Look → ℕ → Option ℕ → Option ℕ
found_or (LoadHead row found) w others = others
found_or (ExchangeHead v found) w others = if v == w then Some found else others
found_or (LoadProgress i found) w others = others
found_or (LoadVisible found) w others = others
found_or (LoadRecord v found) w others = others
found_or (LoadScheduled found) w others = others
found_or (LoadBucket j found) w others = others

-- the head that the first exchange for w found, if there is one among the looks
abbrev pub first_found : List Look → ℕ → Option ℕ
first_found [] w = None
first_found (look ∷ looks) w = found_or look w (first_found looks w)

-- it found another head than this predecessor
abbrev pub is_other : ℕ → Option ℕ → Bool
is_other predecessor None = false
is_other predecessor (Some found) = not (found == predecessor)

-- the number of writes whose first exchange among the looks found another head than their
-- predecessor
unfoldable pub missed_first : List RowName → List Look → ℕ
missed_first names looks =
    count_by (λ w. is_other (predecessor_of names w) (first_found looks w))
    (numbers_from 1 (length names))

-- ---- rounds

-- after any words the closing rounds leave each write done: one round more than there are writes is
-- enough
abbrev pub RoundsSuffice : Type 0
RoundsSuffice = (txns : List Txn) (workers : ℕ) (reads : List ReadParts) (turns : List TurnWord)
    → 1 ≤ workers → is_all_done (length (names_in txns))
    (after_closing txns (after_words txns reads (turn_start workers) turns)).done ≡ true
