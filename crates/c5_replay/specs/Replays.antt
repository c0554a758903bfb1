-- What a replay of a log gives.
use Rattle.std.specs.Prelude.{◌≡◌, ℕ, true, List, length}
use Rattle.c5_rows.specs.Numbers.{is_among}
use Rattle.c5_rows.specs.Sizes.{max_sessions}
use Rattle.c5_rows.specs.State.{State, after_txns}
use Rattle.c5_rows.specs.declared.answer.Reply.{Reply}
use Rattle.c5_definitions.specs.Replies.{AreLawfulPlaces, in_reply_order, replies_at}
use Rattle.c5_definitions.specs.Replies.{reads_of_session}
use Rattle.c5_definitions.specs.ScriptParts.{ReadParts}
use Rattle.c5_definitions.specs.WriteNumbers.{names_in, IsWrite}
use Rattle.c5_frames.specs.Log.{Log}
use Rattle.c5_board.specs.Boards.{Pass, IsWorker}
use Rattle.c5_reads.specs.Looks.{AreWithin}
use Rattle.c5_replay.specs.Answered.{places_of, replies_of_session, loads_of_reads}

-- at lawful places each read is answered by the rows after so many transactions, and the rows are
-- those after all of them
pub record IsReplay (log : Log) (start : State) (reads : List ReadParts) (replies : List Reply)
    (rows : State) : Type 0 where
  pub places : List ℕ
  pub lawful : AreLawfulPlaces (in_reply_order reads) (length log.txns) places
  pub replied : replies ≡ replies_at start log.txns (in_reply_order reads) places
  pub after : rows ≡ after_txns log.txns start

-- the loads of a session's reads at the places of its replies are among the looks of the pass
abbrev pub HasLoadedReads : Pass → List ReadParts → List Reply → ℕ → Type 0
HasLoadedReads p reads replies session =
    AreWithin (loads_of_reads p.board.log.txns (reads_of_session reads session)
    (places_of (replies_of_session replies session))) p.looks

-- a pass of a board over this log with so many workers holds each role, has installed each write
-- and has reached the last place, and has made the loads of each session's reads, read after read
pub record HasReplayed (log : Log) (workers : ℕ) (reads : List ReadParts) (replies : List Reply)
    (p : Pass) : Type 0 where
  pub over : p.board.log ≡ log
  pub count : p.board.workers ≡ workers
  pub roles : (i : ℕ) → IsWorker workers i → is_among i p.roles ≡ true
  pub snapshot : p.snapshot ≡ true
  pub scheduler : p.scheduler ≡ true
  pub installed : (w : ℕ) → IsWrite (names_in log.txns) w → is_among w p.installed ≡ true
  pub place : p.place ≡ length log.txns
  pub loads : (session : ℕ) → IsWorker max_sessions session → HasLoadedReads p reads replies session
