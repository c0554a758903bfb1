-- What sessions have been replied, and the loads that this took.
use Rattle.std.specs.Prelude.{◌≡◌, ◌≤◌, ◌==◌, ◌++◌, ℕ, List, length, map}
use Rattle.std.specs.List.{AllByRecursion, filter, flat_map, zip}
use Rattle.c5_rows.specs.State.{State}
use Rattle.c5_rows.specs.declared.answer.Reply.{Reply}
use Rattle.c5_rows.specs.declared.writes.Txn.{Txn}
use Rattle.c5_definitions.specs.Replies.{AreLawfulPlaces, replies_at}
use Rattle.c5_definitions.specs.ScriptParts.{ReadParts}
use Rattle.c5_frames.specs.Log.{Log}
use Rattle.c5_board.specs.Boards.{Pass}
use Rattle.c5_board.specs.declared.known.Look.{Look}
use Rattle.c5_reads.specs.Looks.{Wanted, AreWithin, loads_of_read}

-- the places of replies, in order
abbrev pub places_of : List Reply → List ℕ
places_of replies = map (λ (reply : Reply). reply.place) replies

-- the replies to a session, in order
abbrev pub replies_of_session : List Reply → ℕ → List Reply
replies_of_session replies session = filter (λ (reply : Reply). reply.session == session) replies

-- the loads of reads at these places, one read after the other
abbrev pub loads_of_reads : List Txn → List ReadParts → List ℕ → List Wanted
loads_of_reads txns reads places =
    flat_map (λ (read, place). loads_of_read txns read place) (zip reads places)

-- the reads were answered at the places of the replies, which are lawful, by the rows after so many
-- transactions
pub record AreAnswered (log : Log) (start : State) (reads : List ReadParts)
    (replies : List Reply) : Type 0 where
  pub lawful : AreLawfulPlaces reads (length log.txns) (places_of replies)
  pub replied : replies ≡ replies_at start log.txns reads (places_of replies)

-- a pass has answered the reads: it knows each place, and its looks have the loads of each read
pub record HasAnswered (p : Pass) (start : State) (reads : List ReadParts)
    (replies : List Reply) : Type 0 where
  pub answered : AreAnswered p.board.log start reads replies
  pub reached : AllByRecursion (λ place. place ≤ p.place) (places_of replies)
  pub loads : AreWithin (loads_of_reads p.board.log.txns reads (places_of replies)) p.looks

-- only the place, what is scheduled and the looks have changed: the place hasn't fallen, and looks
-- were added at the end
pub record OnlyReads (old new : Pass) : Type 0 where
  pub more : List Look
  pub rest : new ≡ record old {
    place = new.place;
    scheduled = new.scheduled;
    looks = old.looks ++ more;
  }
  pub not_below : old.place ≤ new.place
