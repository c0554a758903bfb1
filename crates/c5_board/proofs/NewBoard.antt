-- A new board meets the rule.
use Rattle.std.proofs.Common.{◌≡◌, ℕ, zero, suc, ◌+◌, ◌-◌, ◌<◌, ◌≤◌, Bool, true, false, cond}
use Rattle.std.proofs.Common.{true≢false, List, [], ◌∷◌, ◌++◌, length, replicate, get_or, refl, sym}
use Rattle.std.proofs.Common.{ap, subst, ◌∙◌, arith, lt_of_not-le, length-append}
use Rattle.std.specs.Prelude.{nat_le}
use Rattle.std.proofs.lemmas.Bool.{leb-true}
use Rattle.std.proofs.lemmas.List.{length-replicate, get_or-replicate, get_or_past}
use Rattle.std.proofs.lemmas.List.{get_or_append_left, get_or-append_right}
use Rattle.std.proofs.lemmas.List.Elements.{All-nil}
use mathlib.Core.Option.{some, some-injective, some-ne-none}
use native.Mathlib.Decide.{dec_le}
use lib.ListN.{get_elem?}
use Rattle.atomic_table.specs.Table.{opening}
use Rattle.c5_definitions.specs.WriteNumbers.{names_in, row_of, owner_of, IsWrite}
use Rattle.c5_definitions.specs.RowIndex.{first_in_bucket}
use Rattle.c5_frames.specs.Log.{Log}
use Rattle.c5_board.specs.declared.known.Known.{Known}
use Rattle.c5_board.specs.Sets.{number_of}
use Rattle.c5_rows.specs.Numbers.{numbers_from}
use Rattle.c5_board.specs.Words.{writes_in, buckets_in, head_word, record_word, scheduled_word}
use Rattle.c5_board.specs.Words.{visible_word, bucket_word}
use Rattle.c5_board.specs.Boards.{IsWorker}
use Rattle.c5_board.specs.First.{first_words}
use Rattle.c5_board.specs.Passes.{IsLookOf, bucket_up_to}
use Rattle.c5_board.specs.Rule.{BoardWords, board_words, Holders, IsInstalled, IsFoundInstalled}
use Rattle.c5_board.specs.Rule.{WordsFit, SeatFits, IsKept}
use Rattle.c5_board.specs.Views.{first_view}
use Rattle.c5_board.proofs.Facts.{Facts}
use Rattle.c5_board.proofs.SetLemmas.{has_range, range_has, length-range, range-at, distinct-none}
use Rattle.atomic_table.specs.Seated.{TableId}
use Rattle.c5_board.specs.Boards.{pass_of}
use Rattle.c5_board.specs.Passes.{IsSound}
use Rattle.c5_board.proofs.SeatLemmas.{sound}
use Rattle.c5_board.proofs.PartSteps.{own_least}

blank : (n i : ℕ) → ◌≡◌ {A = ℕ} (get_or (replicate n 0) i 0) 0
blank n i = at (dec_le n i)
  where
    at : Dec (n ≤ i) → ◌≡◌ {A = ℕ} (get_or (replicate n 0) i 0) 0
    at (yes le) = let zero_word : ℕ = 0 in
        let e : length (replicate n zero_word) ≡ n = length-replicate n zero_word in
        get_or_past (replicate n zero_word) i 0 (omega arith)
    at (no gt) = get_or-replicate n i 0 0 (lt_of_not-le gt)

-- ---- the words of a new board

module _ (writes workers buckets : ℕ) where
  abbrev zeros : List ℕ
  zeros = replicate (writes + writes) 0

  abbrev front : List ℕ
  front = replicate (writes + writes) 0 ++ numbers_from 1 workers

  length-zeros : length (zeros) ≡ writes + writes
  length-zeros = length-replicate (writes + writes) 0

  length-front : length (front) ≡ writes + writes + workers
  length-front = let a = length-zeros in let b = length-range 1 workers in
      let c = length-append zeros (numbers_from 1 workers) in omega arith

  pub length-words : length (first_words writes workers buckets)
      ≡ writes + writes + workers + 2 + buckets
  length-words = let zero_word : ℕ = 0 in let a = length-front in
      let b : length (replicate (2 + buckets) zero_word) ≡ 2 + buckets =
      length-replicate (2 + buckets) zero_word in
      let c = length-append front (replicate (2 + buckets) zero_word) in omega arith

  low : (i : ℕ) → i < writes + writes → get_or (first_words writes workers buckets) i 0 ≡ 0
  low i within = let a = length-front in let b = length-zeros in
      get_or_append_left front (replicate (2 + buckets) 0) 0 i (omega arith) ∙
      (get_or_append_left zeros (numbers_from 1 workers) 0 i (omega arith) ∙ blank
      (writes + writes) i)

  middle : (i : ℕ) → i < workers
      → get_or (first_words writes workers buckets) (writes + writes + i) 0 ≡ 1 + i
  middle i within = let a = length-front in
      let rest : writes + writes + i - (writes + writes) ≡ i = omega arith in
      get_or_append_left front (replicate (2 + buckets) 0) 0 (writes + writes + i) (omega arith)
      ∙ (get_or-append_right zeros (numbers_from 1 workers) (writes + writes)
      (writes + writes + i) 0 length-zeros (omega arith)
      ∙ (ap (λ (j : ℕ). get_or (numbers_from 1 workers) j 0) rest ∙ range-at 1 workers i within))

  high : (i : ℕ) → writes + writes + workers ≤ i
      → get_or (first_words writes workers buckets) i 0 ≡ 0
  high i above = get_or-append_right front (replicate (2 + buckets) 0)
      (writes + writes + workers) i 0 length-front above ∙ blank (2 + buckets)
      (i - (writes + writes + workers))

module _ (log : Log) (workers : ℕ) (k : Facts log workers) where
  abbrev x : BoardWords
  x = board_words log workers (first_words (writes_in log) workers (buckets_in log))

  head-none : (w : ℕ) → IsWrite (names_in log.txns) w → x.head w ≡ 0
  head-none w is = let positive = is.positive in let within = is.within in
      low (writes_in log) workers (buckets_in log) (head_word w) (omega arith)

  link-none : (w : ℕ) → IsWrite (names_in log.txns) w → x.link w ≡ 0
  link-none w is = let positive = is.positive in let within = is.within in
      low (writes_in log) workers (buckets_in log) (record_word log w) (omega arith)

  progress-own : (i : ℕ) → IsWorker workers i → x.progress i ≡ i
  progress-own i is = middle (writes_in log) workers (buckets_in log) (i - 1)
      (omega (arith, is.0, is.1)) ∙ omega (arith, is.0)

  scheduled-none : x.scheduled ≡ 0
  scheduled-none = high (writes_in log) workers (buckets_in log) (scheduled_word log workers)
      (omega arith)

  visible-none : x.visible ≡ 0
  visible-none = high (writes_in log) workers (buckets_in log) (visible_word log workers)
      (omega arith)

  bucket-none : (j : ℕ) → x.bucket j ≡ 0
  bucket-none j = high (writes_in log) workers (buckets_in log) (bucket_word log workers j)
      (omega arith)

  none_installed : (w : ℕ) → IsInstalled log workers x w → ⊥
  none_installed w is = let e =
      head-none (row_of (names_in log.txns) w) (k.rows.first w is.write).write in
      let reached = is.reached in let positive = is.write.positive in omega arith

  no_bucket : (j : ℕ) → 0 ≡ bucket_up_to (names_in log.txns) 0 j
  no_bucket j = at (nat_le (first_in_bucket (names_in log.txns) j) 0) refl
    where
      at : (b : Bool) → nat_le (first_in_bucket (names_in log.txns) j) 0 ≡ b
          → 0 ≡ cond b (first_in_bucket (names_in log.txns) j) 0
      at true e = let h = leb-true (first_in_bucket (names_in log.txns) j) 0 e in omega arith
      at false e = refl

  abbrev holders : Holders
  holders = record { worker = λ _. 0; snapshot = 0; scheduler = 0; written = 0; indexed = 0 }

  words_fit : WordsFit log workers 0 0 x
  words_fit = let scheduled = scheduled-none in let visible = visible-none in record {
    heads = record {
      rows = λ r is ne. absurd (ne (head-none r is.write));
      others = λ w is ne. head-none w is;
    };
    progress = λ i is. let e = progress-own i is in record {
      positive = omega (arith, is.0);
      owned = ap (owner_of workers) e ∙ k.owners.own i is.0 is.1;
      below = λ w positive below own. let h = own_least log workers k i w is positive own in
          absurd (omega arith);
    };
    visible = omega arith;
    scheduled = λ w is. absurd (none_installed w is);
    records = record {
      least = omega arith;
      most = omega arith;
      within = omega arith;
      stored = λ w is below. let positive = is.positive in absurd (omega arith);
      blank = λ w is above. link-none w is;
    };
    index = record {
      first = λ ne. absurd (ne refl);
      not_above = omega arith;
      all = λ w is below. let positive = is.write.positive in absurd (omega arith);
      buckets = λ j within. bucket-none j ∙ no_bucket j;
    };
  }

  floor-own : (i : ℕ) → IsWorker workers i → number_of (numbers_from 1 workers) i ≡ i
  floor-own i is = range-at 1 workers (i - 1) (omega (arith, is.0, is.1)) ∙ omega (arith, is.0)

  first_fits : SeatFits log workers holders x 0 (first_view log workers)
  first_fits = let scheduled = scheduled-none in let visible = visible-none in
      let none = k.places.none in record {
        same_log = refl;
        same_workers = refl;
        roles = λ i h. let q = has_range i 1 workers h in ((q.0, omega (arith, q.1)), refl);
        installed = λ w e. absurd (true≢false (sym e));
        all_installed = λ w is e. absurd (none_installed w is);
        once = distinct-none;
        count = length-range 1 workers;
        floors = λ i is. let e = floor-own i is in let p = progress-own i is in record {
          positive = omega (arith, is.0);
          owned = ap (owner_of workers) e ∙ k.owners.own i is.0 is.1;
          reached = omega arith;
        };
        own_floors = λ i h. let q = has_range i 1 workers h in
            let is : IsWorker workers i = (q.0, omega (arith, q.1)) in
            floor-own i is ∙ sym (progress-own i is);
        place = omega arith;
        scheduled = omega arith;
        end = omega arith;
        snapshot =
            λ e. record {
              holder = refl;
              place = sym visible;
              below = λ i is. let e = floor-own i is in
                  omega (arith, is.0);
            };
        scheduler =
            λ e. record {
              holder = refl;
              scheduled = sym scheduled;
              written = refl;
              indexed = refl;
            };
        looks = All-nil (IsLookOf (names_in log.txns) (numbers_from 1 workers) 0 0);
        found = All-nil (IsFoundInstalled log workers x);
      }

  only : (v w : Known) (seat : ℕ) → get_elem? (v ∷ []) seat ≡ some w → (seat ≡ 0) × (v ≡ w)
  only v w zero e = (refl, some-injective v w e)
  only v w (suc seat) e = absurd (some-ne-none w (sym e))

  pub opens : IsKept log workers
      (opening (first_words (writes_in log) workers (buckets_in log)) [] (first_view log workers))
  opens = record {
    holders = holders;
    count = length-words (writes_in log) workers (buckets_in log);
    words = words_fit;
    each = λ seat v e. let o = only (first_view log workers) v seat e in
        subst (λ (z : ℕ × Known). SeatFits log workers holders x z.0 z.1)
        (λ t. (sym o.0 t, o.1 t)) first_fits;
    workers_held =
        λ i is. (first_view log workers, refl, range_has i 1 workers is.0 (omega (arith, is.1)));
    snapshot_held = (first_view log workers, refl, refl);
    scheduler_held = (first_view log workers, refl, refl);
  }

  pub first_sound : (table : TableId) → IsSound (pass_of table (first_view log workers))
  first_sound table = sound log workers k table holders x 0
      (first_view log workers) words_fit first_fits
