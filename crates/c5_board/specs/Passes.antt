-- What is true of every pass, and what a pass knows of the heads that it finds.
use Rattle.std.specs.Prelude.{◌≡◌, ◌≢◌, ◌≤◌, ◌<◌, ℕ, true, false, List, length, nat_le, All}
use Rattle.std.specs.Prelude.{if◌then◌else◌}
use Rattle.c5_rows.specs.declared.writes.RowName.{RowName}
use Rattle.c5_definitions.specs.WriteNumbers.{row_of, end_of, owner_of, IsWrite}
use Rattle.c5_definitions.specs.RowIndex.{first_in_bucket}
use Rattle.c5_board.specs.declared.known.Look.{Look}
use Rattle.c5_board.specs.declared.known.Look.TheVariants.{LoadHead, ExchangeHead, LoadProgress}
use Rattle.c5_board.specs.declared.known.Look.TheVariants.{LoadVisible, LoadRecord, LoadScheduled}
use Rattle.c5_board.specs.declared.known.Look.TheVariants.{LoadBucket}
use Rattle.c5_board.specs.Sets.{number_of}
use Rattle.c5_rows.specs.Numbers.{is_among}
use Rattle.c5_board.specs.Boards.{Pass, names, write_count, record_of, IsWorker}

-- the end of a place of the board's log
abbrev pub end_in : Pass → ℕ → ℕ
end_in p place = end_of p.board.log.txns place

-- the number that worker i's progress has reached, as the pass knows
abbrev pub floor_of : Pass → ℕ → ℕ
floor_of p i = number_of p.floors i

-- the worker that owns w
abbrev pub owner_in : Pass → ℕ → ℕ
owner_in p w = owner_of p.board.workers w

-- the head of a row: 0 or a number of the row
abbrev pub IsHeadOf : List RowName → ℕ → ℕ → Type 0
IsHeadOf names row head = head ≢ 0 → IsWrite names head × (row_of names head ≡ row)

-- the word of bucket j while the first writes up to this one are in the index
abbrev pub bucket_up_to : List RowName → ℕ → ℕ → ℕ
bucket_up_to names indexed j = if nat_le (first_in_bucket names j) indexed
    then first_in_bucket names j else 0

-- a look that a pass may have, by what it knows: its floors, its place and what is scheduled
abbrev pub IsLookOf : List RowName → List ℕ → ℕ → ℕ → Look → Type 0
IsLookOf names floors place scheduled (LoadHead row found) = IsHeadOf names row found
    × (found ≤ scheduled)
IsLookOf names floors place scheduled (ExchangeHead w found) = IsHeadOf names (row_of names w) found
    × (found ≤ scheduled)
IsLookOf names floors place scheduled (LoadProgress i found) = found ≤ number_of floors i
IsLookOf names floors place scheduled (LoadVisible found) = found ≤ place
IsLookOf names floors place scheduled (LoadRecord w found) = found ≡ record_of names w
IsLookOf names floors place scheduled (LoadScheduled found) = found ≤ scheduled
IsLookOf names floors place scheduled (LoadBucket j found) = found ≢ 0
    → found ≡ first_in_bucket names j

-- what is true of every pass
pub record IsSound (p : Pass) : Type 0 where
  pub workers : (i : ℕ) → is_among i p.roles ≡ true → IsWorker p.board.workers i
  pub installed : (w : ℕ) → is_among w p.installed ≡ true → IsWrite (names p.board) w
      × (is_among (owner_in p w) p.roles ≡ true)
  pub count : length p.floors ≡ p.board.workers
  pub floors : (i : ℕ) → IsWorker p.board.workers i → (1 ≤ floor_of p i)
      × (owner_in p (floor_of p i) ≡ i)
  pub place : p.place ≤ length p.board.log.txns
  pub scheduled : p.scheduled ≤ write_count p.board
  pub end : end_in p p.place ≤ p.scheduled
  pub looks : All (IsLookOf (names p.board) p.floors p.place p.scheduled) p.looks

-- x is the least number of worker i that isn't installed
pub record IsOutstanding (p : Pass) (i x : ℕ) : Type 0 where
  pub positive : 1 ≤ x
  pub owned : owner_in p x ≡ i
  pub not_installed : is_among x p.installed ≡ false
  pub least : (w : ℕ) → 1 ≤ w → w < x → owner_in p w ≡ i → is_among w p.installed ≡ true

-- what a look says of the head of a row: it has reached this number
abbrev pub IsReached : List RowName → ℕ → ℕ → Look → Type 0
IsReached names row head (LoadHead r found) = r ≡ row → found ≤ head
IsReached names row head (ExchangeHead w found) = row_of names w ≡ row → found ≤ head
IsReached names row head (LoadProgress i found) = Unit {0}
IsReached names row head (LoadVisible found) = Unit {0}
IsReached names row head (LoadRecord w found) = Unit {0}
IsReached names row head (LoadScheduled found) = Unit {0}
IsReached names row head (LoadBucket j found) = Unit {0}

-- the head of a row is at least each number of the row that the pass knows to be installed, and
-- each head that it has seen;
-- the pass has installed each number of the row up to the head whose owner's role it holds
pub record CoversRow (p : Pass) (row head : ℕ) : Type 0 where
  pub installed : (w : ℕ) → IsWrite (names p.board) w → row_of (names p.board) w ≡ row
      → is_among w p.installed ≡ true → w ≤ head
  pub floors : (w : ℕ) → IsWrite (names p.board) w → row_of (names p.board) w ≡ row
      → w < floor_of p (owner_in p w) → w ≤ head
  pub place : (w : ℕ) → IsWrite (names p.board) w → row_of (names p.board) w ≡ row
      → w ≤ end_in p p.place → w ≤ head
  pub heads : All (IsReached (names p.board) row head) p.looks
  pub own : (w : ℕ) → IsWrite (names p.board) w → row_of (names p.board) w ≡ row → w ≤ head
      → is_among (owner_in p w) p.roles ≡ true → is_among w p.installed ≡ true
