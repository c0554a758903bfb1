-- Each load keeps the rule.
use Rattle.std.proofs.Common.{◌≡◌, ◌≢◌, ℕ, ◌<◌, ◌≤◌, max, Bool, true, false, cond, List, length}
use Rattle.std.proofs.Common.{get_or, set, refl, sym, ap, subst, ◌∙◌, arith}
use Rattle.std.specs.Prelude.{nat_le}
use Rattle.std.proofs.lemmas.Bool.{le-leb}
use Rattle.std.proofs.lemmas.List.{set-get_or}
use Rattle.std.proofs.lemmas.List.Elements.{All-push, All-weaker}
use mathlib.Core.Logic.{dite}
use mathlib.Core.Option.{none}
use native.Mathlib.Decide.{ℕ_discrete}
use Rattle.atomic_table.specs.Seated.{TableId}
use Rattle.atomic_table.specs.Table.{step, keeps, stepped, Allows}
use Rattle.c5_definitions.specs.WriteNumbers.{names_in, row_of, end_of, owner_of, IsWrite}
use Rattle.c5_definitions.specs.WriteNumbers.{IsFirstWrite}
use Rattle.c5_definitions.specs.RowIndex.{first_in_bucket}
use Rattle.c5_frames.specs.Log.{Log}
use Rattle.c5_board.specs.declared.known.Known.{Known}
use Rattle.c5_board.specs.declared.known.Look.{Look}
use Rattle.c5_board.specs.declared.known.Look.TheVariants.{LoadHead, LoadProgress, LoadVisible}
use Rattle.c5_board.specs.declared.known.Look.TheVariants.{LoadRecord, LoadScheduled, LoadBucket}
use Rattle.c5_board.specs.Sets.{number_of, with_number}
use Rattle.c5_rows.specs.Numbers.{is_among}
use Rattle.c5_board.specs.Words.{buckets_in, head_word, record_word, progress_word, scheduled_word}
use Rattle.c5_board.specs.Words.{visible_word, bucket_word, packed}
use Rattle.c5_board.specs.Boards.{IsWorker, record_of, pass_of}
use Rattle.c5_board.specs.Passes.{IsLookOf, IsHeadOf, CoversRow, bucket_up_to}
use Rattle.c5_board.specs.Rule.{BoardWords, IsInstalled, IsFoundInstalled}
use Rattle.c5_board.specs.Views.{looked, with_look, with_floor, with_place}
use Rattle.c5_board.specs.declared.known.Record.{Record}
use Rattle.c5_board.specs.StepFacts.{Seated, Becomes, loads_head, loads_progress, loads_visible}
use Rattle.c5_board.specs.StepFacts.{loads_record, loads_scheduled, loads_bucket}
use Rattle.c5_board.proofs.Facts.{Facts}
use Rattle.c5_board.proofs.SetLemmas.{with_number-here, with_number-else, with_number-length}
use Rattle.c5_board.proofs.SetLemmas.{with_number-grows}
use Rattle.c5_board.proofs.SeatLemmas.{St, Rule, Seat, words_in, look_more, learned, sound, covers}
use Rattle.c5_board.proofs.SeatLemmas.{visible_installed}

-- the seat of a pass, whose log and workers are those of the board
module _ (me : Seated) (k : Facts me.0.log me.0.workers) where
  abbrev log : Log
  log = me.0.log

  abbrev workers : ℕ
  workers = me.0.workers

  abbrev v : Known
  v = me.0

  -- a load leaves the words
  pub loaded : (s : St log workers k) (i id : ℕ) (w : Known)
      → Rule log workers k (record { words = s.words; homes = s.homes; views = set s.views id w })
      → Rule log workers k (stepped s i (get_or s.words i 0) id me.1 w keeps)
  loaded s i id w r =
      subst (λ (ws : List ℕ). Rule log workers k
      (record { words = ws; homes = s.homes; views = set s.views id w }))
      (sym (set-get_or s.words i 0)) r

  x_of : St log workers k → BoardWords
  x_of s = words_in log workers k s

  abbrev Mine : (s : St log workers k) → Rule log workers k s → ℕ → Known → Type 0
  Mine s r id u = Seat log workers k r.holders (words_in log workers k s) id u

  -- ---- one view knows more

  -- one more look
  pub look_fits : (s : St log workers k) (r : Rule log workers k s) (id : ℕ) (u : Known)
      (look : Look) → Mine s r id u
      → IsLookOf (names_in log.txns) u.floors u.place u.scheduled look
      → IsFoundInstalled log workers (words_in log workers k s) look
      → Mine s r id (with_look u look)
  look_fits s r id u look f is_look is_found = record {
    same_log = f.same_log;
    same_workers = f.same_workers;
    roles = f.roles;
    installed = f.installed;
    all_installed = f.all_installed;
    once = f.once;
    count = f.count;
    floors = f.floors;
    own_floors = f.own_floors;
    place = f.place;
    scheduled = f.scheduled;
    end = f.end;
    snapshot = λ role. let g = f.snapshot role in
        record { holder = g.holder; place = g.place; below = g.below };
    scheduler = λ role. let g = f.scheduler role in
        record {
          holder = g.holder;
          scheduled = g.scheduled;
          written = g.written;
          indexed = g.indexed;
        };
    looks = All-push
        (IsLookOf (names_in log.txns) u.floors u.place u.scheduled) u.looks look f.looks is_look;
    found = All-push
        (IsFoundInstalled log workers (words_in log workers k s)) u.looks look f.found is_found;
  }

  -- the scheduled word has reached n
  scheduled_fits : (s : St log workers k) (r : Rule log workers k s) (id n : ℕ) → Mine s r id v
      → n ≤ (words_in log workers k s).scheduled
      → Mine s r id (record v { scheduled = max v.scheduled n })
  scheduled_fits s r id n f within = record {
    same_log = refl;
    same_workers = refl;
    roles = f.roles;
    installed = f.installed;
    all_installed = f.all_installed;
    once = f.once;
    count = f.count;
    floors = f.floors;
    own_floors = f.own_floors;
    place = f.place;
    scheduled = let a = f.scheduled in omega arith;
    end = let a = f.end in omega arith;
    snapshot = λ role. let g = f.snapshot role in
        record { holder = g.holder; place = g.place; below = g.below };
    scheduler = λ role. let g = f.scheduler role in let e = g.scheduled in
        record {
          holder = g.holder;
          scheduled = omega arith;
          written = g.written;
          indexed = g.indexed;
        };
    looks = All-weaker (IsLookOf (names_in log.txns) v.floors v.place v.scheduled)
        (IsLookOf (names_in log.txns) v.floors v.place (max v.scheduled n))
        (look_more (names_in log.txns) v.floors v.floors v.place v.place v.scheduled
        (max v.scheduled n) (λ i. omega arith) (omega arith) (omega arith)) v.looks f.looks;
    found = f.found;
  }

  -- the progress of worker i
  floor_fits : (s : St log workers k) (r : Rule log workers k s) (id i : ℕ) → Mine s r id v
      → IsWorker workers i → Mine s r id (with_floor v i ((words_in log workers k s).progress i))
  floor_fits s r id i f is =
      let n : ℕ = (words_in log workers k s).progress i in
      let within : i ≤ length v.floors = let c = f.count in omega (arith, is.1) in
      let here : number_of (with_number v.floors i n) i ≡ n =
      with_number-here v.floors i n is.0 within in
      let grows : (j : ℕ) → number_of v.floors j ≤ number_of (with_number v.floors i n) j =
      with_number-grows v.floors i n is.0 within (f.floors i is).reached in
      let p = r.words.progress i is in record {
        same_log = refl;
        same_workers = refl;
        roles = f.roles;
        installed = f.installed;
        all_installed = f.all_installed;
        once = f.once;
        count = with_number-length v.floors i n ∙ f.count;
        floors = λ j is_j. dite (ℕ_discrete j i)
            (λ e. let same : number_of (with_number v.floors i n) j
            ≡ n = ap (number_of (with_number v.floors i n)) e ∙ here in
            let at : (words_in log workers k s).progress j ≡ n =
            ap (words_in log workers k s).progress e in record {
              positive = let q = p.positive in omega arith;
              owned = ap (owner_of workers) same ∙ (p.owned ∙ sym e);
              reached = omega arith;
            })
            (λ ne. let same = with_number-else v.floors i j n is.0 is_j.0 ne in
            let g = f.floors j is_j in let reached = g.reached in let positive = g.positive in
            record {
              positive = omega arith;
              owned = ap (owner_of workers) same ∙ g.owned;
              reached = omega arith;
            });
        own_floors = λ j role. dite (ℕ_discrete j i)
            (λ e. ap (number_of (with_number v.floors i n)) e ∙
            (here ∙ ap (words_in log workers k s).progress (sym e)))
            (λ ne. with_number-else v.floors i j n is.0
            (f.roles j role).0.0 ne ∙ f.own_floors j role);
        place = f.place;
        scheduled = f.scheduled;
        end = f.end;
        snapshot = λ role. let g = f.snapshot role in
            record {
              holder = g.holder;
              place = g.place;
              below = λ j is_j. let a = g.below j is_j in
                  let b = grows j in omega arith;
            };
        scheduler = λ role. let g = f.scheduler role in
            record {
              holder = g.holder;
              scheduled = g.scheduled;
              written = g.written;
              indexed = g.indexed;
            };
        looks = All-weaker (IsLookOf (names_in log.txns) v.floors v.place v.scheduled)
            (IsLookOf (names_in log.txns) (with_number v.floors i n) v.place v.scheduled)
            (look_more (names_in log.txns) v.floors
            (with_number v.floors i n) v.place v.place v.scheduled v.scheduled grows
            (omega arith) (omega arith)) v.looks f.looks;
        found = f.found;
      }

  -- the end of the visible place is scheduled
  visible_scheduled : (s : St log workers k) (r : Rule log workers k s)
      → end_of log.txns (words_in log workers k s).visible ≤ (words_in log workers k s).scheduled
  visible_scheduled s r = dite (ℕ_discrete (end_of log.txns (words_in log workers k s).visible) 0)
      (λ z. omega arith)
      (λ ne. r.words.scheduled (end_of log.txns (words_in log workers k s).visible)
      (visible_installed log workers k s r (end_of log.txns (words_in log workers k s).visible)
      (omega arith) (omega arith)))

  -- the visible place
  place_fits : (s : St log workers k) (r : Rule log workers k s) (id : ℕ) → Mine s r id v
      → Mine s r id (with_place v (words_in log workers k s).visible)
  place_fits s r id f =
      let p : ℕ = (words_in log workers k s).visible in
      let ends = visible_scheduled s r in
      record {
        same_log = refl;
        same_workers = refl;
        roles = f.roles;
        installed = f.installed;
        all_installed = f.all_installed;
        once = f.once;
        count = f.count;
        floors = f.floors;
        own_floors = f.own_floors;
        place = omega arith;
        scheduled = let a = f.scheduled in omega arith;
        end = omega arith;
        snapshot = λ role. let g = f.snapshot role in record {
          holder = g.holder;
          place = refl;
          below = λ j is_j. subst (λ (q : ℕ). end_of log.txns q < number_of v.floors j) g.place
              (g.below j is_j);
        };
        scheduler = λ role. let g = f.scheduler role in let e = g.scheduled in
            record {
              holder = g.holder;
              scheduled = omega arith;
              written = g.written;
              indexed = g.indexed;
            };
        looks = All-weaker (IsLookOf (names_in log.txns) v.floors v.place v.scheduled)
            (IsLookOf (names_in log.txns) v.floors p (max v.scheduled (end_of log.txns p)))
            (look_more (names_in log.txns) v.floors v.floors v.place p v.scheduled
            (max v.scheduled (end_of log.txns p)) (λ i. omega arith) f.place (omega arith))
            v.looks f.looks;
        found = f.found;
      }

  -- ---- the loads

  pub loads_scheduled_step : (slots id : ℕ)
      → Allows (Rule log workers k) slots id me (scheduled_word log workers) (λ n. n)
      (loads_scheduled (step slots (scheduled_word log workers) 0 0 none) me)
  loads_scheduled_step slots id s r _ at _ =
      let x : BoardWords = words_in log workers k s in
      let f = r.each id v at in
      let n : ℕ = get_or s.words (scheduled_word log workers) 0 in
      let least = f.scheduled in
      let a = r.words.records.least in let b = r.words.records.within in
      let w : Known = looked v n (LoadScheduled n) in
      let mine = look_fits s r id (record v { scheduled = max v.scheduled n }) (LoadScheduled n)
      (scheduled_fits s r id n f (omega arith)) (omega arith) tt in (
        w,
        keeps,
        tt,
        loaded s (scheduled_word log workers) id w
            (learned log workers k s r id v w at
            (record { worker_roles = refl; snapshot_role = refl; scheduler_role = refl }) mine),
        (
          (refl, (λ table. sound log workers k table r.holders x id w r.words mine)),
          least,
          omega arith,
          (λ role. sym (f.scheduler role).scheduled),
        ),
      )

  pub loads_visible_step : (slots id : ℕ)
      → Allows (Rule log workers k) slots id me (visible_word log workers) (λ n. n)
      (loads_visible (step slots (visible_word log workers) 0 0 none) me)
  loads_visible_step slots id s r _ at _ =
      let x : BoardWords = words_in log workers k s in
      let f = r.each id v at in
      let n : ℕ = get_or s.words (visible_word log workers) 0 in
      let w : Known = with_look (with_place v n) (LoadVisible n) in
      let mine = look_fits s r id (with_place v n) (LoadVisible n) (place_fits s r id f)
      (omega arith) tt in (
        w,
        keeps,
        tt,
        loaded s (visible_word log workers) id w
            (learned log workers k s r id v w at
            (record { worker_roles = refl; snapshot_role = refl; scheduler_role = refl }) mine),
        (
          (refl, (λ table. sound log workers k table r.holders x id w r.words mine)),
          f.place,
          r.words.visible,
          (λ role. sym (f.snapshot role).place),
        ),
      )

  pub loads_progress_step : (slots id i : ℕ) → IsWorker workers i
      → Allows (Rule log workers k) slots id me (progress_word log i) (λ n. n)
      (loads_progress (step slots (progress_word log i) 0 0 none) me)
  loads_progress_step slots id i is s r _ at _ =
      let x : BoardWords = words_in log workers k s in
      let f = r.each id v at in
      let n : ℕ = get_or s.words (progress_word log i) 0 in
      let w : Known = with_look (with_floor v i n) (LoadProgress i n) in
      let within : i ≤ length v.floors = let c = f.count in omega (arith, is.1) in
      let here : number_of (with_number v.floors i n) i ≡ n =
      with_number-here v.floors i n is.0 within in
      let mine = look_fits s r id (with_floor v i n) (LoadProgress i n) (floor_fits s r id i f is)
      (omega arith) tt in (
        w,
        keeps,
        tt,
        loaded s (progress_word log i) id w
            (learned log workers k s r id v w at
            (record { worker_roles = refl; snapshot_role = refl; scheduler_role = refl }) mine),
        (λ j is_j e. let same : i ≡ j = omega (arith, is.0, is_j.0) in
            subst (λ (j : ℕ). Becomes me (w, me.1) (with_look (with_floor v j n) (LoadProgress j n))
            × (number_of v.floors j ≤ n) × (1 ≤ n)
            × (is_among j v.roles ≡ true → n ≡ number_of v.floors j)
            × (v.snapshot ≡ true → end_of log.txns v.place < n)) same (
              (refl, (λ table. sound log workers k table r.holders x id w r.words mine)),
              (f.floors i is).reached,
              (r.words.progress i is).positive,
              (λ role. sym (f.own_floors i role)),
              (λ role. let a = (f.snapshot role).below i is in let b = (f.floors i is).reached in
                  omega arith),
            )),
      )

  pub loads_head_step : (slots id row : ℕ) → IsFirstWrite (names_in log.txns) row
      → Allows (Rule log workers k) slots id me (head_word row) (λ n. n)
      (loads_head (step slots (head_word row) 0 0 none) me)
  loads_head_step slots id row is s r _ at _ =
      let x : BoardWords = words_in log workers k s in
      let f = r.each id v at in
      let n : ℕ = get_or s.words (head_word row) 0 in
      let w : Known = looked v n (LoadHead row n) in
      let head : IsHeadOf (names_in log.txns) row n = r.words.heads.rows row is in
      let installed : n ≢ 0 → IsInstalled log workers x n = λ ne. let h = head ne in
      let same : x.head (row_of (names_in log.txns) n) ≡ n = ap x.head h.1 in
      record { write = h.0; reached = omega arith } in
      let within : n ≤ x.scheduled =
      dite (ℕ_discrete n 0) (λ z. omega arith) (λ ne. r.words.scheduled n (installed ne)) in
      let mine = look_fits s r id (record v { scheduled = max v.scheduled n }) (LoadHead row n)
      (scheduled_fits s r id n f within) (head, omega arith) installed in (
        w,
        keeps,
        tt,
        loaded s (head_word row) id w
            (learned log workers k s r id v w at
            (record { worker_roles = refl; snapshot_role = refl; scheduler_role = refl }) mine),
        (λ q is_q e. let same : row ≡ q = omega (arith, is.write.positive, is_q.write.positive) in
            subst (λ (q : ℕ). Becomes me (w, me.1) (looked v n (LoadHead q n))
            × IsHeadOf (names_in log.txns) q n
            × ((table : TableId) → CoversRow (pass_of table v) q n)) same (
              (refl, (λ table. sound log workers k table r.holders x id w r.words mine)),
              head,
              (λ table. covers log workers k table s r id v row f),
            )),
      )

  pub loads_record_step : (slots id w : ℕ) → IsWrite (names_in log.txns) w → w ≤ v.scheduled
      → Allows (Rule log workers k) slots id me (record_word log w) (λ n. n)
      (loads_record (step slots (record_word log w) 0 0 none) me)
  loads_record_step slots id w is scheduled s r _ at _ =
      let x : BoardWords = words_in log workers k s in
      let f = r.each id v at in
      let n : ℕ = get_or s.words (record_word log w) 0 in
      let link : Record = record_of (names_in log.txns) w in
      let u : Known = with_look v (LoadRecord w link) in
      let a = f.scheduled in let b = r.words.records.least in
      let mine = look_fits s r id v (LoadRecord w link) f refl tt in (
        u,
        keeps,
        tt,
        loaded s (record_word log w) id u
            (learned log workers k s r id v u at
            (record { worker_roles = refl; snapshot_role = refl; scheduler_role = refl }) mine),
        (λ q is_q e. let same : w ≡ q = omega (arith, is.positive, is_q.positive) in
            subst (λ (q : ℕ). Becomes me (u, me.1)
            (with_look v (LoadRecord q (record_of (names_in log.txns) q)))
            × (n ≡ packed (record_of (names_in log.txns) q))) same (
              (refl, (λ table. sound log workers k table r.holders x id u r.words mine)),
              r.words.records.stored w is (omega arith),
            )),
      )

  -- the word of a bucket is 0, or the first write whose slot it is
  bucket-some : (m j : ℕ) → bucket_up_to (names_in log.txns) m j ≢ 0
      → bucket_up_to (names_in log.txns) m j ≡ first_in_bucket (names_in log.txns) j
  bucket-some m j = at (nat_le (first_in_bucket (names_in log.txns) j) m)
    where
      at : (b : Bool) → cond b (first_in_bucket (names_in log.txns) j) 0 ≢ 0
          → cond b (first_in_bucket (names_in log.txns) j) 0 ≡ first_in_bucket (names_in log.txns) j
      at true ne = refl
      at false ne = absurd (ne refl)

  bucket-within : (m j : ℕ) → first_in_bucket (names_in log.txns) j ≤ m
      → bucket_up_to (names_in log.txns) m j ≡ first_in_bucket (names_in log.txns) j
  bucket-within m j within = rw (le-leb (first_in_bucket (names_in log.txns) j) m within) refl

  pub loads_bucket_step : (slots id j : ℕ) → j < buckets_in log
      → Allows (Rule log workers k) slots id me (bucket_word log workers j) (λ n. n)
      (loads_bucket (step slots (bucket_word log workers j) 0 0 none) me)
  loads_bucket_step slots id j below s r _ at _ =
      let x : BoardWords = words_in log workers k s in
      let f = r.each id v at in
      let n : ℕ = get_or s.words (bucket_word log workers j) 0 in
      let w : Known = with_look v (LoadBucket j n) in
      let is : n ≡ bucket_up_to (names_in log.txns) r.holders.indexed j =
      r.words.index.buckets j below in
      let some_first : n ≢ 0 → n ≡ first_in_bucket (names_in log.txns) j =
      λ ne. is ∙ bucket-some r.holders.indexed j (λ z. ne (is ∙ z)) in
      let mine = look_fits s r id v (LoadBucket j n) f some_first tt in (
        w,
        keeps,
        tt,
        loaded s (bucket_word log workers j) id w
            (learned log workers k s r id v w at
            (record { worker_roles = refl; snapshot_role = refl; scheduler_role = refl }) mine),
        (λ q below_q e. let same : j ≡ q = omega arith in
            subst (λ (q : ℕ). Becomes me (w, me.1) (with_look v (LoadBucket q n))
            × (n ≢ 0 → n ≡ first_in_bucket (names_in log.txns) q)
            × (first_in_bucket (names_in log.txns) q ≤ v.scheduled
            → n ≡ first_in_bucket (names_in log.txns) q)
            × (v.scheduler ≡ true → n ≡ bucket_up_to (names_in log.txns) v.indexed q)) same (
              (refl, (λ table. sound log workers k table r.holders x id w r.words mine)),
              some_first,
              (λ within. is ∙ bucket-within r.holders.indexed j
                  (first_indexed s r j below (let a = f.scheduled in omega arith))),
              (λ role. is ∙ ap (λ (m : ℕ). bucket_up_to (names_in log.txns) m j)
                  (sym (f.scheduler role).indexed)),
            )),
      )
    where
      first_indexed : (s : St log workers k) (r : Rule log workers k s) (j : ℕ) → j < buckets_in log
          → first_in_bucket (names_in log.txns) j ≤ (words_in log workers k s).scheduled
          → first_in_bucket (names_in log.txns) j ≤ r.holders.indexed
      first_indexed s r j below within = dite (ℕ_discrete (first_in_bucket (names_in log.txns) j) 0)
          (λ z. omega arith)
          (λ ne. r.words.index.all (first_in_bucket (names_in log.txns) j)
          (k.index.first j below ne) within)
