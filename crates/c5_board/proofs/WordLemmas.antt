-- What one store does to the words.
use Rattle.std.proofs.Common.{◌≡◌, ◌≢◌, ℕ, ◌<◌, List, length, set, arith, get_or-set_same}
use Rattle.std.proofs.Common.{get_or-set_other}
use Rattle.c5_definitions.specs.WriteNumbers.{names_in, IsWrite}
use Rattle.c5_frames.specs.Log.{Log}
use Rattle.c5_board.specs.Words.{buckets_in, head_word, record_word, progress_word, scheduled_word}
use Rattle.c5_board.specs.Words.{visible_word, bucket_word, word_count}
use Rattle.c5_board.specs.Boards.{IsWorker}
use Rattle.c5_board.specs.Rule.{BoardWords, board_words}

module _ (log : Log) (workers : ℕ) where
  -- ---- which words are the same

  abbrev pub SameHeads : BoardWords → BoardWords → Type 0
  SameHeads x y = (w : ℕ) → IsWrite (names_in log.txns) w → y.head w ≡ x.head w

  abbrev pub SameLinks : BoardWords → BoardWords → Type 0
  SameLinks x y = (w : ℕ) → IsWrite (names_in log.txns) w → y.link w ≡ x.link w

  abbrev pub SameProgress : BoardWords → BoardWords → Type 0
  SameProgress x y = (i : ℕ) → IsWorker workers i → y.progress i ≡ x.progress i

  abbrev pub SameBuckets : BoardWords → BoardWords → Type 0
  SameBuckets x y = (j : ℕ) → j < buckets_in log → y.bucket j ≡ x.bucket j

  -- ---- one word has become n

  pub record HeadSet (x y : BoardWords) (w n : ℕ) : Type 0 where
    pub here : y.head w ≡ n
    pub else : (v : ℕ) → IsWrite (names_in log.txns) v → v ≢ w → y.head v ≡ x.head v
    pub links : SameLinks x y
    pub progress : SameProgress x y
    pub scheduled : y.scheduled ≡ x.scheduled
    pub visible : y.visible ≡ x.visible
    pub buckets : SameBuckets x y

  pub record LinkSet (x y : BoardWords) (w n : ℕ) : Type 0 where
    pub here : y.link w ≡ n
    pub else : (v : ℕ) → IsWrite (names_in log.txns) v → v ≢ w → y.link v ≡ x.link v
    pub heads : SameHeads x y
    pub progress : SameProgress x y
    pub scheduled : y.scheduled ≡ x.scheduled
    pub visible : y.visible ≡ x.visible
    pub buckets : SameBuckets x y

  pub record ProgressSet (x y : BoardWords) (i n : ℕ) : Type 0 where
    pub here : y.progress i ≡ n
    pub else : (k : ℕ) → IsWorker workers k → k ≢ i → y.progress k ≡ x.progress k
    pub heads : SameHeads x y
    pub links : SameLinks x y
    pub scheduled : y.scheduled ≡ x.scheduled
    pub visible : y.visible ≡ x.visible
    pub buckets : SameBuckets x y

  pub record ScheduledSet (x y : BoardWords) (n : ℕ) : Type 0 where
    pub here : y.scheduled ≡ n
    pub heads : SameHeads x y
    pub links : SameLinks x y
    pub progress : SameProgress x y
    pub visible : y.visible ≡ x.visible
    pub buckets : SameBuckets x y

  pub record VisibleSet (x y : BoardWords) (n : ℕ) : Type 0 where
    pub here : y.visible ≡ n
    pub heads : SameHeads x y
    pub links : SameLinks x y
    pub progress : SameProgress x y
    pub scheduled : y.scheduled ≡ x.scheduled
    pub buckets : SameBuckets x y

  pub record BucketSet (x y : BoardWords) (j n : ℕ) : Type 0 where
    pub here : y.bucket j ≡ n
    pub else : (k : ℕ) → k < buckets_in log → k ≢ j → y.bucket k ≡ x.bucket k
    pub heads : SameHeads x y
    pub links : SameLinks x y
    pub progress : SameProgress x y
    pub scheduled : y.scheduled ≡ x.scheduled
    pub visible : y.visible ≡ x.visible

  -- ---- each store does that

  module _ (words : List ℕ) (n : ℕ) (count : length words ≡ word_count log workers) where
    abbrev x : BoardWords
    x = board_words log workers words

    abbrev set_at : ℕ → BoardWords
    set_at i = board_words log workers (set words i n)

    pub head_set : (w : ℕ) → IsWrite (names_in log.txns) w
        → HeadSet (board_words log workers words)
        (board_words log workers (set words (head_word w) n)) w n
    head_set w is = let some = is.positive in let within = is.within in record {
      here = get_or-set_same words (head_word w) n 0 (omega arith);
      else = λ v is_v ne. let p = is_v.positive in
          get_or-set_other words (head_word w) (head_word v) n 0 (λ e. ne (omega arith));
      links = λ v is_v. get_or-set_other words (head_word w) (record_word log v) n 0
          (λ e. omega arith);
      progress = λ i is_i. get_or-set_other words (head_word w) (progress_word log i) n 0
          (λ e. omega arith);
      scheduled = get_or-set_other words (head_word w) (scheduled_word log workers) n 0
          (λ e. omega arith);
      visible = get_or-set_other words (head_word w) (visible_word log workers) n 0
          (λ e. omega arith);
      buckets = λ j below. get_or-set_other words (head_word w) (bucket_word log workers j) n 0
          (λ e. omega arith);
    }

    pub link_set : (w : ℕ) → IsWrite (names_in log.txns) w
        → LinkSet (board_words log workers words)
        (board_words log workers (set words (record_word log w) n)) w n
    link_set w is = let some = is.positive in let within = is.within in record {
      here = get_or-set_same words (record_word log w) n 0 (omega arith);
      else = λ v is_v ne. let p = is_v.positive in
          get_or-set_other words (record_word log w) (record_word log v) n 0
          (λ e. ne (omega arith));
      heads = λ v is_v. let p = is_v.positive in let q = is_v.within in
          get_or-set_other words (record_word log w) (head_word v) n 0 (λ e. omega arith);
      progress = λ i is_i. get_or-set_other words (record_word log w) (progress_word log i) n 0
          (λ e. omega arith);
      scheduled = get_or-set_other words (record_word log w) (scheduled_word log workers) n 0
          (λ e. omega arith);
      visible = get_or-set_other words (record_word log w) (visible_word log workers) n 0
          (λ e. omega arith);
      buckets = λ j below. get_or-set_other words (record_word log w)
          (bucket_word log workers j) n 0 (λ e. omega arith);
    }

    pub progress_set : (i : ℕ) → IsWorker workers i
        → ProgressSet (board_words log workers words)
        (board_words log workers (set words (progress_word log i) n)) i n
    progress_set i is = let some = is.0 in let within = is.1 in record {
      here = get_or-set_same words (progress_word log i) n 0 (omega arith);
      else = λ k is_k ne. let p = is_k.0 in
          get_or-set_other words (progress_word log i) (progress_word log k) n 0
          (λ e. ne (omega arith));
      heads = λ v is_v. let p = is_v.positive in let q = is_v.within in
          get_or-set_other words (progress_word log i) (head_word v) n 0 (λ e. omega arith);
      links = λ v is_v. let p = is_v.positive in let q = is_v.within in
          get_or-set_other words (progress_word log i) (record_word log v) n 0 (λ e. omega arith);
      scheduled = get_or-set_other words (progress_word log i) (scheduled_word log workers) n 0
          (λ e. omega arith);
      visible = get_or-set_other words (progress_word log i) (visible_word log workers) n 0
          (λ e. omega arith);
      buckets = λ j below. get_or-set_other words (progress_word log i)
          (bucket_word log workers j) n 0 (λ e. omega arith);
    }

    pub scheduled_set : ScheduledSet (board_words log workers words)
        (board_words log workers (set words (scheduled_word log workers) n)) n
    scheduled_set = record {
      here = get_or-set_same words (scheduled_word log workers) n 0 (omega arith);
      heads = λ v is_v. let p = is_v.positive in let q = is_v.within in
          get_or-set_other words (scheduled_word log workers) (head_word v) n 0 (λ e. omega arith);
      links = λ v is_v. let p = is_v.positive in let q = is_v.within in
          get_or-set_other words (scheduled_word log workers) (record_word log v) n 0
          (λ e. omega arith);
      progress = λ i is_i. let p = is_i.0 in let q = is_i.1 in
          get_or-set_other words (scheduled_word log workers) (progress_word log i) n 0
          (λ e. omega arith);
      visible = get_or-set_other words (scheduled_word log workers) (visible_word log workers) n 0
          (λ e. omega arith);
      buckets = λ j below. get_or-set_other words (scheduled_word log workers)
          (bucket_word log workers j) n 0 (λ e. omega arith);
    }

    pub visible_set : VisibleSet (board_words log workers words)
        (board_words log workers (set words (visible_word log workers) n)) n
    visible_set = record {
      here = get_or-set_same words (visible_word log workers) n 0 (omega arith);
      heads = λ v is_v. let p = is_v.positive in let q = is_v.within in
          get_or-set_other words (visible_word log workers) (head_word v) n 0 (λ e. omega arith);
      links = λ v is_v. let p = is_v.positive in let q = is_v.within in
          get_or-set_other words (visible_word log workers) (record_word log v) n 0
          (λ e. omega arith);
      progress = λ i is_i. let p = is_i.0 in let q = is_i.1 in
          get_or-set_other words (visible_word log workers) (progress_word log i) n 0
          (λ e. omega arith);
      scheduled = get_or-set_other words (visible_word log workers) (scheduled_word log workers) n 0
          (λ e. omega arith);
      buckets = λ j below. get_or-set_other words (visible_word log workers)
          (bucket_word log workers j) n 0 (λ e. omega arith);
    }

    pub bucket_set : (j : ℕ) → j < buckets_in log
        → BucketSet (board_words log workers words)
        (board_words log workers (set words (bucket_word log workers j) n)) j n
    bucket_set j within = record {
      here = get_or-set_same words (bucket_word log workers j) n 0 (omega arith);
      else = λ k below ne. get_or-set_other words (bucket_word log workers j)
          (bucket_word log workers k) n 0 (λ e. ne (omega arith));
      heads = λ v is_v. let p = is_v.positive in let q = is_v.within in
          get_or-set_other words (bucket_word log workers j) (head_word v) n 0 (λ e. omega arith);
      links = λ v is_v. let p = is_v.positive in let q = is_v.within in
          get_or-set_other words (bucket_word log workers j) (record_word log v) n 0
          (λ e. omega arith);
      progress = λ i is_i. let p = is_i.0 in let q = is_i.1 in
          get_or-set_other words (bucket_word log workers j) (progress_word log i) n 0
          (λ e. omega arith);
      scheduled = get_or-set_other words (bucket_word log workers j)
          (scheduled_word log workers) n 0 (λ e. omega arith);
      visible = get_or-set_other words (bucket_word log workers j) (visible_word log workers) n 0
          (λ e. omega arith);
    }
