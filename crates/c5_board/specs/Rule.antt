-- The rule of the board: what is true between any two steps.
use Rattle.std.specs.Prelude.{◌≡◌, ◌≢◌, ◌≤◌, ◌<◌, ◌+◌, ℕ, true, List, length, slice_index, All}
use Rattle.std.specs.Prelude.{nat_eq}
use Rattle.std.specs.List.{IsDistinct}
use mathlib.Core.Option.{some}
use lib.ListN.{get_elem?}
use Rattle.atomic_table.specs.Table.{State}
use Rattle.c5_definitions.specs.WriteNumbers.{names_in, row_of, end_of, owner_of, IsWrite}
use Rattle.c5_definitions.specs.WriteNumbers.{IsFirstWrite}
use Rattle.c5_frames.specs.Log.{Log}
use Rattle.c5_board.specs.declared.known.Known.{Known}
use Rattle.c5_board.specs.declared.known.Look.{Look}
use Rattle.c5_board.specs.declared.known.Look.TheVariants.{LoadHead, ExchangeHead, LoadProgress}
use Rattle.c5_board.specs.declared.known.Look.TheVariants.{LoadVisible, LoadRecord, LoadScheduled}
use Rattle.c5_board.specs.declared.known.Look.TheVariants.{LoadBucket}
use Rattle.c5_board.specs.Sets.{number_of}
use Rattle.c5_rows.specs.Numbers.{is_among}
use Rattle.c5_board.specs.Words.{writes_in, buckets_in, head_word, record_word, progress_word}
use Rattle.c5_board.specs.Words.{scheduled_word, visible_word, bucket_word, word_count, packed}
use Rattle.c5_board.specs.Boards.{record_of, IsWorker}
use Rattle.c5_board.specs.Passes.{IsHeadOf, IsLookOf, bucket_up_to}

-- the words, each by what it is of
pub record BoardWords : Type 0 where
  pub head : ℕ → ℕ
  pub link : ℕ → ℕ
  pub progress : ℕ → ℕ
  pub scheduled : ℕ
  pub visible : ℕ
  pub bucket : ℕ → ℕ

abbrev pub board_words : Log → ℕ → List ℕ → BoardWords
board_words log workers words = record {
  head = λ w. slice_index words (head_word w);
  link = λ w. slice_index words (record_word log w);
  progress = λ i. slice_index words (progress_word log i);
  scheduled = slice_index words (scheduled_word log workers);
  visible = slice_index words (visible_word log workers);
  bucket = λ j. slice_index words (bucket_word log workers j);
}

-- which seat holds each worker role, the snapshot role and the scheduler role; how far records and
-- the index go
pub record Holders : Type 0 where
  pub worker : ℕ → ℕ
  pub snapshot : ℕ
  pub scheduler : ℕ
  pub written : ℕ
  pub indexed : ℕ

module _ (log : Log) (workers : ℕ) where
  -- w is installed: the head of its row has reached it
  pub record IsInstalled (x : BoardWords) (w : ℕ) : Type 0 where
    pub write : IsWrite (names_in log.txns) w
    pub reached : w ≤ x.head (row_of (names_in log.txns) w)

  -- ---- what the words say

  -- the head of a row is 0 or a number of the row; no other write has a head
  pub record HeadsFit (x : BoardWords) : Type 0 where
    pub rows : (r : ℕ) → IsFirstWrite (names_in log.txns) r
        → IsHeadOf (names_in log.txns) r (x.head r)
    pub others : (w : ℕ) → IsWrite (names_in log.txns) w → row_of (names_in log.txns) w ≢ w
        → x.head w ≡ 0

  -- the progress of worker i is a number that it owns, and each number below it that it owns is
  -- installed
  pub record ProgressFits (x : BoardWords) (i : ℕ) : Type 0 where
    pub positive : 1 ≤ x.progress i
    pub owned : owner_of workers (x.progress i) ≡ i
    pub below : (w : ℕ) → 1 ≤ w → w < x.progress i → owner_of workers w ≡ i → IsInstalled x w

  -- records are stored in order, at most one ahead of the scheduled word
  pub record RecordsFit (written : ℕ) (x : BoardWords) : Type 0 where
    pub least : x.scheduled ≤ written
    pub most : written ≤ x.scheduled + 1
    pub within : written ≤ writes_in log
    pub stored : (w : ℕ) → IsWrite (names_in log.txns) w → w ≤ written
        → x.link w ≡ packed (record_of (names_in log.txns) w)
    pub blank : (w : ℕ) → IsWrite (names_in log.txns) w → written < w → x.link w ≡ 0

  -- the index has each first write up to the scheduled word, and each of its buckets is that first
  -- write's slot
  pub record IndexFits (indexed : ℕ) (x : BoardWords) : Type 0 where
    pub first : indexed ≢ 0 → IsFirstWrite (names_in log.txns) indexed
    pub not_above : indexed ≤ x.scheduled + 1
    pub all : (w : ℕ) → IsFirstWrite (names_in log.txns) w → w ≤ x.scheduled → w ≤ indexed
    pub buckets : (j : ℕ) → j < buckets_in log
        → x.bucket j ≡ bucket_up_to (names_in log.txns) indexed j

  pub record WordsFit (written indexed : ℕ) (x : BoardWords) : Type 0 where
    pub heads : HeadsFit x
    pub progress : (i : ℕ) → IsWorker workers i → ProgressFits x i
    pub visible : x.visible ≤ length log.txns
    pub scheduled : (w : ℕ) → IsInstalled x w → w ≤ x.scheduled
    pub records : RecordsFit written x
    pub index : IndexFits indexed x

  -- ---- what one seat's view says against the words

  -- a floor is a number that the worker owns, and that its progress has reached
  pub record FloorFits (x : BoardWords) (floors : List ℕ) (i : ℕ) : Type 0 where
    pub positive : 1 ≤ number_of floors i
    pub owned : owner_of workers (number_of floors i) ≡ i
    pub reached : number_of floors i ≤ x.progress i

  -- a head that was found is installed
  abbrev pub IsFoundInstalled : BoardWords → Look → Type 0
  IsFoundInstalled x (LoadHead row found) = found ≢ 0 → IsInstalled x found
  IsFoundInstalled x (ExchangeHead w found) = found ≢ 0 → IsInstalled x found
  IsFoundInstalled x (LoadProgress i found) = Unit {0}
  IsFoundInstalled x (LoadVisible found) = Unit {0}
  IsFoundInstalled x (LoadRecord w found) = Unit {0}
  IsFoundInstalled x (LoadScheduled found) = Unit {0}
  IsFoundInstalled x (LoadBucket j found) = Unit {0}

  -- the seat with the snapshot role knows the visible place, whose writes are below every floor
  pub record SnapshotFits (h : Holders) (x : BoardWords) (seat : ℕ) (v : Known) : Type 0 where
    pub holder : h.snapshot ≡ seat
    pub place : v.place ≡ x.visible
    pub below : (i : ℕ) → IsWorker workers i → end_of log.txns v.place < number_of v.floors i

  -- the seat with the scheduler role knows how far the schedule, the records and the index go
  pub record SchedulerFits (h : Holders) (x : BoardWords) (seat : ℕ) (v : Known) : Type 0 where
    pub holder : h.scheduler ≡ seat
    pub scheduled : v.scheduled ≡ x.scheduled
    pub written : v.written ≡ h.written
    pub indexed : v.indexed ≡ h.indexed

  pub record SeatFits (h : Holders) (x : BoardWords) (seat : ℕ) (v : Known) : Type 0 where
    pub same_log : v.log ≡ log
    pub same_workers : v.workers ≡ workers
    pub roles : (i : ℕ) → is_among i v.roles ≡ true → IsWorker workers i × (h.worker i ≡ seat)
    pub installed : (w : ℕ) → is_among w v.installed ≡ true → IsInstalled x w
        × (is_among (owner_of workers w) v.roles ≡ true)
    pub all_installed : (w : ℕ) → IsInstalled x w → is_among (owner_of workers w) v.roles ≡ true
        → is_among w v.installed ≡ true
    pub once : IsDistinct nat_eq v.installed
    pub count : length v.floors ≡ workers
    pub floors : (i : ℕ) → IsWorker workers i → FloorFits x v.floors i
    pub own_floors : (i : ℕ) → is_among i v.roles ≡ true → number_of v.floors i ≡ x.progress i
    pub place : v.place ≤ x.visible
    pub scheduled : v.scheduled ≤ x.scheduled
    pub end : end_of log.txns v.place ≤ v.scheduled
    pub snapshot : v.snapshot ≡ true → SnapshotFits h x seat v
    pub scheduler : v.scheduler ≡ true → SchedulerFits h x seat v
    pub looks : All (IsLookOf (names_in log.txns) v.floors v.place v.scheduled) v.looks
    pub found : All (IsFoundInstalled x) v.looks

-- The rule
pub record IsKept (log : Log) (workers : ℕ) (s : State (Unit {0}) Known) : Type 0 where
  pub holders : Holders
  pub count : length s.words ≡ word_count log workers
  pub words : WordsFit log workers holders.written holders.indexed (board_words log workers s.words)
  pub each : (seat : ℕ) (v : Known) → get_elem? s.views seat ≡ some v
      → SeatFits log workers holders (board_words log workers s.words) seat v
  pub workers_held : (i : ℕ) → IsWorker workers i → (v : Known)
      × (get_elem? s.views (holders.worker i) ≡ some v) × (is_among i v.roles ≡ true)
  pub snapshot_held : (v : Known) × (get_elem? s.views holders.snapshot ≡ some v)
      × (v.snapshot ≡ true)
  pub scheduler_held : (v : Known) × (get_elem? s.views holders.scheduler ≡ some v)
      × (v.scheduler ≡ true)
