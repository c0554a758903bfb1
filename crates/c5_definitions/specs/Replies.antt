-- What read blocks are answered, each by the rows after some of the transactions.
use Rattle.std.specs.Prelude.{◌≡◌, ◌≤◌, ◌==◌, ℕ, List, [], ◌∷◌, length, map}
use Rattle.std.specs.List.{AllByRecursion, filter, flat_map, range_with_len, zip}
use Rattle.c5_rows.specs.Sizes.{max_sessions}
use Rattle.c5_rows.specs.State.{State, state_after}
use Rattle.c5_rows.specs.declared.answer.Reply.{Reply}
use Rattle.c5_rows.specs.declared.writes.Txn.{Txn}
use Rattle.c5_definitions.specs.Answers.{answer_of}
use Rattle.c5_definitions.specs.ScriptParts.{ReadParts}

-- the read blocks of a session, in the script's order
abbrev pub reads_of_session : List ReadParts → ℕ → List ReadParts
reads_of_session reads session = filter (λ read. read.session == session) reads

-- the read blocks by session, and those of a session in the script's order
abbrev pub in_reply_order : List ReadParts → List ReadParts
in_reply_order reads = flat_map (reads_of_session reads) (range_with_len 1 max_sessions)

-- no read of a session has a place below that of an earlier one
abbrev pub PlacesNeverFall : List (ReadParts × ℕ) → Type 0
PlacesNeverFall [] = Unit {0}
PlacesNeverFall ((read, place) ∷ later) =
    AllByRecursion (λ next. next.0.session ≡ read.session → place ≤ next.1) later
    × PlacesNeverFall later

-- a place for each read, at most the number of transactions, that never falls within a session
pub record AreLawfulPlaces (reads : List ReadParts) (total : ℕ) (places : List ℕ) : Type 0 where
  pub one_each : length places ≡ length reads
  pub within : AllByRecursion (λ place. place ≤ total) places
  pub never_fall : PlacesNeverFall (zip reads places)

-- the reply to a read: its answer by the rows after so many transactions
abbrev pub reply_at : State → List Txn → ReadParts → ℕ → Reply
reply_at state txns read place = record {
  session = read.session;
  place = place;
  answer = answer_of read (state_after state txns place);
}

-- the replies to reads at these places
abbrev pub replies_at : State → List Txn → List ReadParts → List ℕ → List Reply
replies_at state txns reads places =
    map (λ (read, place). reply_at state txns read place) (zip reads places)
