-- The law: what is true in every state that the rule allows. The installed numbers are those of all
-- views together.
use Rattle.std.specs.Prelude.{◌≡◌, ◌≢◌, ◌≤◌, ◌<◌, ◌+◌, ◌↔◌, ◌==◌, ℕ, Bool, true, length, All}
use Rattle.std.specs.Prelude.{nat_eq}
use Rattle.std.specs.List.{IsDistinct, count_by}
use mathlib.Core.Option.{some}
use lib.ListN.{get_elem?}
use Rattle.atomic_table.specs.Table.{State}
use Rattle.c5_definitions.specs.WriteNumbers.{names_in, row_of, end_of, owner_of, IsWrite}
use Rattle.c5_definitions.specs.WriteNumbers.{IsFirstWrite}
use Rattle.c5_frames.specs.Log.{Log}
use Rattle.c5_plan.specs.Sizes.{IsPlanned}
use Rattle.c5_board.specs.declared.known.Known.{Known}
use Rattle.c5_board.specs.declared.known.Look.{Look}
use Rattle.c5_board.specs.declared.known.Look.TheVariants.{LoadHead, ExchangeHead, LoadProgress}
use Rattle.c5_board.specs.declared.known.Look.TheVariants.{LoadVisible, LoadRecord, LoadScheduled}
use Rattle.c5_board.specs.declared.known.Look.TheVariants.{LoadBucket}
use Rattle.c5_board.specs.Sets.{number_of}
use Rattle.c5_rows.specs.Numbers.{is_among}
use Rattle.c5_board.specs.Words.{writes_in, buckets_in, packed}
use Rattle.c5_board.specs.Boards.{record_of, IsWorker}
use Rattle.c5_rows.specs.Sizes.{max_workers}
use Rattle.c5_board.specs.Passes.{IsHeadOf, IsLookOf, bucket_up_to}
use Rattle.c5_board.specs.Rule.{BoardWords, board_words, IsKept}

abbrev pub Boarded : Type 0
Boarded = State (Unit {0}) Known

-- the view of a seat
abbrev pub HasView : Boarded → ℕ → Known → Type 0
HasView s seat v = get_elem? s.views seat ≡ some v

-- exactly one seat holds the role
pub record IsHeldByOne (s : Boarded) (role : Known → Bool) : Type 0 where
  pub seat : ℕ
  pub view : Known
  pub at : HasView s seat view
  pub holds : role view ≡ true
  pub only : (other : ℕ) (v : Known) → HasView s other v → role v ≡ true → other ≡ seat

-- w is among the installed numbers of some view
abbrev pub IsDone : Boarded → ℕ → Type 0
IsDone s w = (seat : ℕ) × (v : Known) × HasView s seat v × (is_among w v.installed ≡ true)

module _ (log : Log) (workers : ℕ) (s : Boarded) where
  abbrev pub the_words : BoardWords
  the_words = board_words log workers s.words

  -- each view is of this log and of this number of workers
  pub record IsOfBoard (v : Known) : Type 0 where
    pub same_log : v.log ≡ log
    pub same_workers : v.workers ≡ workers

  -- w is listed once, by the view that holds the role of its owner, and by no other
  pub record IsInstalledOnce (w : ℕ) : Type 0 where
    pub seat : ℕ
    pub view : Known
    pub at : HasView s seat view
    pub role : is_among (owner_of workers w) view.roles ≡ true
    pub listed : count_by (λ n. w == n) view.installed ≡ 1
    pub only : (other : ℕ) (v : Known) → HasView s other v → is_among w v.installed ≡ true
        → other ≡ seat

  -- 1. each role is held by exactly one view, and a view's installed numbers are writes that its
  -- roles own, each listed once; no other view has them
  pub record RolesAreHeld : Type 0 where
    pub worker : (i : ℕ) → IsWorker workers i → IsHeldByOne s (λ v. is_among i v.roles)
    pub snapshot : IsHeldByOne s (λ v. v.snapshot)
    pub scheduler : IsHeldByOne s (λ v. v.scheduler)
    pub owned : (seat : ℕ) (v : Known) (w : ℕ) → HasView s seat v → is_among w v.installed ≡ true
        → IsWrite (names_in log.txns) w × (is_among (owner_of workers w) v.roles ≡ true)
    pub once : (a b : ℕ) (v u : Known) (w : ℕ) → HasView s a v → HasView s b u
        → is_among w v.installed ≡ true → is_among w u.installed ≡ true → a ≡ b
    pub distinct : (seat : ℕ) (v : Known) → HasView s seat v → IsDistinct nat_eq v.installed

  -- 2. a row's head is 0 or a number of the row, whose numbers up to it are the installed ones; all
  -- other heads are 0
  pub record HeadsLead : Type 0 where
    pub head : (r : ℕ) → IsFirstWrite (names_in log.txns) r
        → IsHeadOf (names_in log.txns) r (the_words.head r)
    pub installed : (w : ℕ) → IsWrite (names_in log.txns) w
        → IsDone s w ↔ (w ≤ the_words.head (row_of (names_in log.txns) w))
    pub others : (w : ℕ) → IsWrite (names_in log.txns) w → row_of (names_in log.txns) w ≢ w
        → the_words.head w ≡ 0

  -- 3. progress i is a number that worker i owns, and the floor of the view with its role; each
  -- number below it that worker i owns is installed
  pub record ProgressIsMade : Type 0 where
    pub positive : (i : ℕ) → IsWorker workers i → 1 ≤ the_words.progress i
    pub owned : (i : ℕ) → IsWorker workers i → owner_of workers (the_words.progress i) ≡ i
    pub floor : (seat : ℕ) (v : Known) (i : ℕ) → HasView s seat v → is_among i v.roles ≡ true
        → the_words.progress i ≡ number_of v.floors i
    pub below : (i w : ℕ) → IsWorker workers i → 1 ≤ w → w < the_words.progress i
        → owner_of workers w ≡ i → IsDone s w

  -- 4. no view is ahead of the words
  pub record ViewsAreReached (v : Known) : Type 0 where
    pub floors : (i : ℕ) → IsWorker workers i → number_of v.floors i ≤ the_words.progress i
    pub place : v.place ≤ the_words.visible
    pub scheduled : v.scheduled ≤ the_words.scheduled
    pub end : end_of log.txns v.place ≤ v.scheduled

  -- 5. the visible place is that of the view with the snapshot role, whose floors are above its end
  pub record PlaceIsVisible : Type 0 where
    pub within : the_words.visible ≤ length log.txns
    pub place : (seat : ℕ) (v : Known) → HasView s seat v → v.snapshot ≡ true
        → the_words.visible ≡ v.place
    pub below : (seat : ℕ) (v : Known) (i : ℕ) → HasView s seat v → v.snapshot ≡ true
        → IsWorker workers i → end_of log.txns the_words.visible < number_of v.floors i

  -- 6. what was found is 0 or installed, a record or a slot of the log, or at most what the view
  -- knows
  abbrev pub IsFoundDone : Look → Type 0
  IsFoundDone (LoadHead row found) = found ≢ 0 → IsDone s found
  IsFoundDone (ExchangeHead w found) = found ≢ 0 → IsDone s found
  IsFoundDone (LoadProgress i found) = Unit {0}
  IsFoundDone (LoadVisible found) = Unit {0}
  IsFoundDone (LoadRecord w found) = Unit {0}
  IsFoundDone (LoadScheduled found) = Unit {0}
  IsFoundDone (LoadBucket j found) = Unit {0}

  pub record LooksAreTrue (v : Known) : Type 0 where
    pub known : All (IsLookOf (names_in log.txns) v.floors v.place v.scheduled) v.looks
    pub done : All IsFoundDone v.looks

  -- 7. records are those of the log up to `written`, which is at most one ahead of the scheduled
  -- word, and 0 above it
  pub record RecordsAreStored (v : Known) : Type 0 where
    pub scheduled : the_words.scheduled ≡ v.scheduled
    pub least : the_words.scheduled ≤ v.written
    pub most : v.written ≤ the_words.scheduled + 1
    pub within : v.written ≤ writes_in log
    pub stored : (w : ℕ) → IsWrite (names_in log.txns) w → w ≤ v.written
        → the_words.link w ≡ packed (record_of (names_in log.txns) w)
    pub blank : (w : ℕ) → IsWrite (names_in log.txns) w → v.written < w → the_words.link w ≡ 0

  -- 9. the index has the first writes that are scheduled
  pub record RowsAreInIndex (v : Known) : Type 0 where
    pub first : v.indexed ≢ 0 → IsFirstWrite (names_in log.txns) v.indexed
    pub not_above : v.indexed ≤ the_words.scheduled + 1
    pub all : (w : ℕ) → IsFirstWrite (names_in log.txns) w → w ≤ the_words.scheduled → w ≤ v.indexed

  -- the ten parts of the rule, and what follows: every write up to the end of the visible place is
  -- installed, once
  pub record IsLawful : Type 0 where
    pub of_board : (seat : ℕ) (v : Known) → HasView s seat v → IsOfBoard v
    pub roles : RolesAreHeld
    pub heads : HeadsLead
    pub progress : ProgressIsMade
    pub reached : (seat : ℕ) (v : Known) → HasView s seat v → ViewsAreReached v
    pub visible : PlaceIsVisible
    pub looks : (seat : ℕ) (v : Known) → HasView s seat v → LooksAreTrue v
    pub records : (seat : ℕ) (v : Known) → HasView s seat v → v.scheduler ≡ true
        → RecordsAreStored v
    -- 8. no installed number is above the scheduled word
    pub scheduled : (w : ℕ) → IsDone s w → w ≤ the_words.scheduled
    pub index : (seat : ℕ) (v : Known) → HasView s seat v → v.scheduler ≡ true → RowsAreInIndex v
    -- 10. a bucket is the first write whose slot it is, if that is at most `indexed`, and else 0
    pub buckets : (seat : ℕ) (v : Known) (j : ℕ) → HasView s seat v → v.scheduler ≡ true
        → j < buckets_in log → the_words.bucket j ≡ bucket_up_to (names_in log.txns) v.indexed j
    pub all_visible : (w : ℕ) → 1 ≤ w → w ≤ end_of log.txns the_words.visible → IsDone s w
    pub visible_once : (w : ℕ) → 1 ≤ w → w ≤ end_of log.txns the_words.visible → IsInstalledOnce w

-- a board has 1 to 16 workers
abbrev pub IsWorkerCount : ℕ → Type 0
IsWorkerCount workers = (1 ≤ workers) × (workers ≤ max_workers)

abbrev pub BoardLaw : Type 0
BoardLaw = (log : Log) (workers : ℕ) → IsPlanned log → IsWorkerCount workers → (s : Boarded)
    → IsKept log workers s → IsLawful log workers s
