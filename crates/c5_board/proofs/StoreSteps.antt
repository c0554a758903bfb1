-- Each store keeps the rule.
use Rattle.std.proofs.Common.{◌≡◌, ◌≢◌, ℕ, ◌+◌, ◌<◌, ◌≤◌, max, true, false, length, set, refl, sym}
use Rattle.std.proofs.Common.{ap, subst, ◌∙◌, arith, length-set, lt_of_not-le}
use Rattle.std.proofs.lemmas.Bool.{le-leb, lt-leb}
use Rattle.std.proofs.lemmas.List.Elements.{All-weaker}
use mathlib.Core.Logic.{dite}
use mathlib.Core.Option.{some, none}
use native.Mathlib.Decide.{dec_le, ℕ_discrete}
use lib.ListN.{get_elem?}
use Rattle.atomic_table.specs.Seated.{TableId}
use Rattle.atomic_table.specs.Table.{step, keeps, stepped, Allows}
use Rattle.c5_definitions.specs.WriteNumbers.{names_in, end_of, owner_of, IsWrite, IsFirstWrite}
use Rattle.c5_definitions.specs.RowIndex.{first_in_bucket, IsSlot}
use Rattle.c5_frames.specs.Log.{Log}
use Rattle.c5_board.specs.declared.known.Known.{Known}
use Rattle.c5_board.specs.Sets.{number_of, with_number}
use Rattle.c5_rows.specs.Numbers.{is_among}
use Rattle.c5_board.specs.Words.{buckets_in, record_word, progress_word, scheduled_word}
use Rattle.c5_board.specs.Words.{visible_word, bucket_word, packed}
use Rattle.c5_board.specs.Boards.{IsWorker, record_of, pass_of}
use Rattle.c5_board.specs.Passes.{IsLookOf, IsHeadOf, IsSound, bucket_up_to}
use Rattle.c5_board.specs.Rule.{BoardWords, board_words, Holders, IsInstalled, IsFoundInstalled}
use Rattle.c5_board.specs.Rule.{HeadsFit, ProgressFits, RecordsFit, IndexFits, WordsFit}
use Rattle.c5_board.specs.Views.{with_floor, with_place}
use Rattle.c5_board.specs.StepFacts.{Seated, Becomes, stores_progress, stores_visible}
use Rattle.c5_board.specs.StepFacts.{stores_record}
use Rattle.c5_board.specs.StepFacts.{stores_scheduled, stores_bucket}
use Rattle.c5_board.proofs.Facts.{Facts}
use Rattle.c5_board.proofs.WordLemmas.{SameHeads, SameProgress, link_set, progress_set}
use Rattle.c5_board.proofs.WordLemmas.{scheduled_set, visible_set, bucket_set}
use Rattle.c5_board.proofs.SetLemmas.{not_both, with_number-here, with_number-else}
use Rattle.c5_board.proofs.SetLemmas.{with_number-length, with_number-grows}
use Rattle.c5_board.proofs.SeatLemmas.{St, Rule, Seat, words_in, with_marks, look_more, found_grown}
use Rattle.c5_board.proofs.SeatLemmas.{inst_same, same_grown, owner_is, stays, moved, sound}

module _ (me : Seated) (k : Facts me.0.log me.0.workers) where
  abbrev log : Log
  log = me.0.log

  abbrev workers : ℕ
  workers = me.0.workers

  abbrev v : Known
  v = me.0

  -- ---- heads and progress stay

  pub heads_still : (x y : BoardWords) → SameHeads log workers x y → HeadsFit log workers x
      → HeadsFit log workers y
  heads_still x y same f = record {
    rows = λ r is. subst (IsHeadOf (names_in log.txns) r) (sym (same r is.write)) (f.rows r is);
    others = λ w is ne. same w is ∙ f.others w is ne;
  }

  pub progress_still : (x y : BoardWords) (i : ℕ) → SameHeads log workers x y
      → y.progress i ≡ x.progress i → ProgressFits log workers x i → ProgressFits log workers y i
  progress_still x y i same e f = let positive = f.positive in record {
    positive = omega arith;
    owned = ap (owner_of workers) e ∙ f.owned;
    below = λ w some_w below own. inst_same log workers k x y w same
        (f.below w some_w (omega arith) own);
  }

  pub back : (x y : BoardWords) → SameHeads log workers x y → SameHeads log workers y x
  back x y same w is = sym (same w is)

  -- ---- the scheduler's stores

  -- heads, progress and the visible place stay, and the scheduled word grows
  record Schedules (x y : BoardWords) : Type 0 where
    heads : SameHeads log workers x y
    steps : SameProgress log workers x y
    visible : y.visible ≡ x.visible
    grows : x.scheduled ≤ y.scheduled

  scheduler_fits : (h : Holders) (x y : BoardWords) (id top written indexed : ℕ) → Schedules x y
      → y.scheduled ≡ top → v.scheduler ≡ true → Seat log workers k h x id v
      → Seat log workers k (with_marks h written indexed) y id
      (record v { scheduled = top; written = written; indexed = indexed })
  scheduler_fits h x y id top written indexed c is_top role f =
      let grows = c.grows in
      let g = f.scheduler role in let e = g.scheduled in record {
        same_log = refl;
        same_workers = refl;
        roles = f.roles;
        installed = λ w is. let i = f.installed w is in
            (inst_same log workers k x y w c.heads i.0, i.1);
        all_installed = λ w is own. f.all_installed w
            (inst_same log workers k y x w (back x y c.heads) is) own;
        once = f.once;
        count = f.count;
        floors = λ i is. let p = f.floors i is in let reached = p.reached in
            let same = c.steps i is in
            record { positive = p.positive; owned = p.owned; reached = omega arith };
        own_floors = λ i own. f.own_floors i own ∙ sym (c.steps i (f.roles i own).0);
        place = let a = f.place in let b = c.visible in omega arith;
        scheduled = omega arith;
        end = let a = f.end in omega arith;
        snapshot = λ own. let p = f.snapshot own in
            record { holder = p.holder; place = p.place ∙ sym c.visible; below = p.below };
        scheduler =
            λ own. record {
              holder = g.holder;
              scheduled = sym is_top;
              written = refl;
              indexed = refl;
            };
        looks = All-weaker (IsLookOf (names_in log.txns) v.floors v.place v.scheduled)
            (IsLookOf (names_in log.txns) v.floors v.place top)
            (look_more (names_in log.txns) v.floors v.floors v.place v.place v.scheduled top
            (λ i. omega arith) (omega arith) (omega arith)) v.looks f.looks;
        found = All-weaker (IsFoundInstalled log workers x) (IsFoundInstalled log workers y)
            (found_grown log workers k x y (same_grown log workers k x y c.heads)) v.looks f.found;
      }

  schedules : (s : St log workers k) (r : Rule log workers k s) (id i n top written indexed : ℕ)
      → get_elem? s.views id ≡ some v → v.scheduler ≡ true
      → Schedules (words_in log workers k s) (board_words log workers (set s.words i n))
      → (board_words log workers (set s.words i n)).scheduled ≡ top
      → RecordsFit log workers written (board_words log workers (set s.words i n))
      → IndexFits log workers indexed (board_words log workers (set s.words i n))
      → Rule log workers k
      (stepped s i n id me.1
      (record v { scheduled = top; written = written; indexed = indexed }) keeps)
      × ((table : TableId) → IsSound
      (pass_of table (record v { scheduled = top; written = written; indexed = indexed })))
  schedules s r id i n top written indexed at role c is_top records index =
      let x : BoardWords = words_in log workers k s in
      let y : BoardWords = board_words log workers (set s.words i n) in
      let f = r.each id v at in
      let w : Known = record v { scheduled = top; written = written; indexed = indexed } in
      let visible = c.visible in let grows = c.grows in
      let fit : WordsFit log workers written indexed y = record {
        heads = heads_still x y c.heads r.words.heads;
        progress = λ j is_j. progress_still x y j c.heads (c.steps j is_j)
            (r.words.progress j is_j);
        visible = let a = r.words.visible in omega arith;
        scheduled = λ q is_q. let a =
            r.words.scheduled q (inst_same log workers k y x q (back x y c.heads) is_q) in
            omega arith;
        records = records;
        index = index;
      } in
      let mine = scheduler_fits r.holders x y id top written indexed c is_top role f in
      let rule = moved log workers k s r id v w (set s.words i n) s.homes written indexed at
      (record { worker_roles = refl; snapshot_role = refl; scheduler_role = refl })
      (length-set s.words i n ∙ r.count) fit mine
      (λ j u ne e. stays log workers k r.holders written indexed x y j u
      (record {
        heads = same_grown log workers k x y c.heads;
        progress = λ q is_q. let same = c.steps q is_q in omega arith;
        scheduled = grows;
        visible = omega arith;
      })
      (record {
        installs = λ q is_q own. inst_same log workers k y x q (back x y c.heads) is_q;
        progress = λ q own. c.steps q ((r.each j u e).roles q own).0;
        snapshot = λ own. c.visible;
        scheduler = λ own. absurd
            (ne (sym ((r.each j u e).scheduler own).holder ∙ (f.scheduler role).holder));
      })
      (r.each j u e)) in (
        rule,
        (λ table. sound log workers k table
            (with_marks r.holders written indexed) y id w fit mine),
      )

  pub stores_scheduled_step : (slots id w : ℕ) → v.scheduler ≡ true → w ≡ v.written
      → w ≡ v.scheduled + 1 → (IsFirstWrite (names_in log.txns) w → v.indexed ≡ w)
      → Allows (Rule log workers k) slots id me (scheduled_word log workers) (λ _. w)
      (λ _. stores_scheduled (step slots (scheduled_word log workers) w 0 none) me w)
  stores_scheduled_step slots id w role written next indexed s r _ at _ =
      let x : BoardWords = words_in log workers k s in
      let y : BoardWords = board_words log workers (set s.words (scheduled_word log workers) w) in
      let c = scheduled_set log workers s.words w r.count in
      let f = r.each id v at in
      let g = f.scheduler role in
      let e = g.scheduled in let e_written = g.written in let e_indexed = g.indexed in
      let here = c.here in
      let within = r.words.records.within in let not_above = r.words.index.not_above in
      let u : Known = record v { scheduled = w } in
      let h = schedules s r id (scheduled_word log workers) w w v.written v.indexed at role
      (record { heads = c.heads; steps = c.progress; visible = c.visible; grows = omega arith })
      here
      (record {
        least = omega arith;
        most = omega arith;
        within = omega arith;
        stored = λ q is_q below. c.links q is_q ∙ r.words.records.stored q is_q (omega arith);
        blank = λ q is_q above. c.links q is_q ∙ r.words.records.blank q is_q (omega arith);
      })
      (record {
        first = λ ne. subst (IsFirstWrite (names_in log.txns)) (sym g.indexed)
            (r.words.index.first (λ z. ne (g.indexed ∙ z)));
        not_above = omega arith;
        all = λ q is_q below. dite (ℕ_discrete q w)
            (λ same. let a = indexed (subst (IsFirstWrite (names_in log.txns)) same is_q) in
            omega arith)
            (λ ne. let a = r.words.index.all q is_q (omega arith) in omega arith);
        buckets = λ j below. c.buckets j below ∙
            (r.words.index.buckets j below ∙ ap (λ (n : ℕ). bucket_up_to (names_in log.txns) n j)
            (sym g.indexed));
      }) in
      (u, keeps, tt, h.0, (refl, h.1))

  pub stores_record_step : (slots id w : ℕ) → v.scheduler ≡ true → v.written ≡ v.scheduled
      → w ≡ v.scheduled + 1 → IsWrite (names_in log.txns) w
      → Allows (Rule log workers k) slots id me (record_word log w)
      (λ _. packed (record_of (names_in log.txns) w))
      (λ _. stores_record
      (step slots (record_word log w) (packed (record_of (names_in log.txns) w)) 0 none) me
      (packed (record_of (names_in log.txns) w)))
  stores_record_step slots id w role ready next is s r _ at _ =
      let n : ℕ = packed (record_of (names_in log.txns) w) in
      let x : BoardWords = words_in log workers k s in
      let y : BoardWords = board_words log workers (set s.words (record_word log w) n) in
      let c = link_set log workers s.words n r.count w is in
      let f = r.each id v at in
      let g = f.scheduler role in
      let e = g.scheduled in let e_written = g.written in let e_indexed = g.indexed in
      let within = is.within in let same_scheduled = c.scheduled in
      let not_above = r.words.index.not_above in
      let u : Known = record v { written = w } in
      let h = schedules s r id (record_word log w) n v.scheduled w v.indexed at role
      (record { heads = c.heads; steps = c.progress; visible = c.visible; grows = omega arith })
      (same_scheduled ∙ sym e)
      (record {
        least = omega arith;
        most = omega arith;
        within = within;
        stored = λ q is_q below. dite (ℕ_discrete q w)
            (λ same. ap (λ (j : ℕ). y.link j) same ∙
            (c.here ∙ ap (λ (j : ℕ). packed (record_of (names_in log.txns) j)) (sym same)))
            (λ ne. c.else q is_q ne ∙ r.words.records.stored q is_q (omega arith));
        blank = λ q is_q above. c.else q is_q (λ same. omega arith) ∙ r.words.records.blank q is_q
            (omega arith);
      })
      (record {
        first = λ ne. subst (IsFirstWrite (names_in log.txns)) (sym g.indexed)
            (r.words.index.first (λ z. ne (g.indexed ∙ z)));
        not_above = omega arith;
        all = λ q is_q below. let a = r.words.index.all q is_q (omega arith) in omega arith;
        buckets = λ j below. c.buckets j below ∙
            (r.words.index.buckets j below ∙ ap (λ (m : ℕ). bucket_up_to (names_in log.txns) m j)
            (sym g.indexed));
      }) in (
        u,
        keeps,
        tt,
        h.0,
        (λ q is_q same_word. let same : w ≡ q = omega (arith, is.positive, is_q.positive) in
            subst (λ (q : ℕ). Becomes me (u, me.1) (record v { written = q })) same (refl, h.1)),
      )

  -- ---- the index

  bucket-up : (m j first : ℕ) → first_in_bucket (names_in log.txns) j ≡ first → first ≤ m
      → bucket_up_to (names_in log.txns) m j ≡ first
  bucket-up m j first is within = rw (is, le-leb first m within) refl

  bucket-above : (m j : ℕ) → m < first_in_bucket (names_in log.txns) j
      → bucket_up_to (names_in log.txns) m j ≡ 0
  bucket-above m j above = rw (lt-leb (first_in_bucket (names_in log.txns) j) m above) refl

  pub stores_bucket_step : (slots id j w : ℕ) → v.scheduler ≡ true → v.written ≡ v.scheduled
      → w ≡ v.scheduled + 1 → IsFirstWrite (names_in log.txns) w → v.indexed < w
      → IsSlot (names_in log.txns) w j
      → Allows (Rule log workers k) slots id me (bucket_word log workers j) (λ _. w)
      (λ _. stores_bucket (step slots (bucket_word log workers j) w 0 none) me w)
  stores_bucket_step slots id j w role ready next is above slot s r _ at _ =
      let x : BoardWords = words_in log workers k s in
      let y : BoardWords = board_words log workers (set s.words (bucket_word log workers j) w) in
      let c = bucket_set log workers s.words w r.count j slot.within in
      let f = r.each id v at in
      let g = f.scheduler role in
      let e = g.scheduled in let e_written = g.written in let e_indexed = g.indexed in
      let same_scheduled = c.scheduled in
      let least = r.words.records.least in let most = r.words.records.most in
      let holds = slot.holds in
      let u : Known = record v { indexed = w } in
      let h = schedules s r id (bucket_word log workers j) w v.scheduled v.written w at role
      (record { heads = c.heads; steps = c.progress; visible = c.visible; grows = omega arith })
      (same_scheduled ∙ sym e)
      (record {
        least = omega arith;
        most = omega arith;
        within = let a = r.words.records.within in omega arith;
        stored = λ q is_q below. c.links q is_q ∙ r.words.records.stored q is_q (omega arith);
        blank = λ q is_q over. c.links q is_q ∙ r.words.records.blank q is_q (omega arith);
      })
      (record {
        first = λ ne. is;
        not_above = omega arith;
        all = λ q is_q below. omega arith;
        buckets = λ b below. dite (ℕ_discrete b j)
            (λ same. ap (λ (i : ℕ). y.bucket i) same ∙
            (c.here ∙
            (sym (bucket-up w j w slot.holds (omega arith)) ∙ ap
            (bucket_up_to (names_in log.txns) w) (sym same))))
            (λ ne. c.else b below ne ∙ (r.words.index.buckets b below ∙ elsewhere b below ne
            (λ q is_q within. let a = r.words.index.all q is_q (omega arith) in omega arith)
            e_indexed));
      }) in
      (u, keeps, tt, h.0, (refl, h.1))
    where
      -- no other bucket has a first write between the last one in the index and w
      elsewhere : {indexed : ℕ} (b : ℕ) → b < buckets_in log → b ≢ j
          → ((q : ℕ) → IsFirstWrite (names_in log.txns) q → q < w → q ≤ v.indexed)
          → v.indexed ≡ indexed
          → bucket_up_to (names_in log.txns) indexed b ≡ bucket_up_to (names_in log.txns) w b
      elsewhere {indexed} b below ne old same =
          elim (dec_le (first_in_bucket (names_in log.txns) b) indexed) [
            | yes le ↦
                bucket-up indexed b (first_in_bucket (names_in log.txns) b) refl le ∙ sym
                (bucket-up w b (first_in_bucket (names_in log.txns) b) refl (omega arith))
            | no gt ↦ let g = lt_of_not-le gt in
                let ne_zero : first_in_bucket (names_in log.txns) b ≢ 0 = omega arith in
                let first = k.index.first b below ne_zero in
                let not_w : first_in_bucket (names_in log.txns) b ≢ w =
                λ z. ne (k.index.one b j below slot.within (z ∙ sym slot.holds) ne_zero) in
                let over : w < first_in_bucket (names_in log.txns) b =
                elim (dec_le (first_in_bucket (names_in log.txns) b) w) [
                  | yes small ↦ let a = old (first_in_bucket (names_in log.txns) b) first
                      (omega arith) in absurd (omega arith)
                  | no big ↦ lt_of_not-le big
                ] in
                bucket-above indexed b g ∙ sym (bucket-above w b over)
          ]

  -- ---- progress

  pub stores_progress_step : (slots id i n : ℕ) → is_among i v.roles ≡ true → IsWorker workers i
      → 1 ≤ n → owner_of workers n ≡ i → is_among n v.installed ≡ false
      → ((w : ℕ) → 1 ≤ w → w < n → owner_of workers w ≡ i → is_among w v.installed ≡ true)
      → Allows (Rule log workers k) slots id me (progress_word log i) (λ _. n)
      (λ _. stores_progress (step slots (progress_word log i) n 0 none) me n)
  stores_progress_step slots id i n role is positive owned not_installed least s r _ at _ =
      let x : BoardWords = words_in log workers k s in
      let y : BoardWords = board_words log workers (set s.words (progress_word log i) n) in
      let c = progress_set log workers s.words n r.count i is in
      let f = r.each id v at in
      let here = c.here in
      let p = r.words.progress i is in
      let own_floor = f.own_floors i role in
      let w : Known = with_floor v i n in
      let role_n : is_among (owner_of workers n) v.roles ≡ true =
      ap (λ (j : ℕ). is_among j v.roles) owned ∙ role in
      let grown : x.progress i ≤ n = elim (dec_le (x.progress i) n) [
        | yes le ↦ le
        | no gt ↦ absurd
            (not_both (is_among n v.installed)
            (f.all_installed n (p.below n positive (lt_of_not-le gt) owned) role_n) not_installed)
      ] in
      let grows_by : (q : ℕ) → IsWorker workers q
      → x.progress q ≤ y.progress q = λ q is_q. dite (ℕ_discrete q i)
      (λ same. let a = ap x.progress same in let b = ap y.progress same in omega arith)
      (λ ne. let a = c.else q is_q ne in omega arith) in
      let within : i ≤ length v.floors = let z = f.count in omega (arith, is.1) in
      let floor_here : number_of (with_number v.floors i n) i ≡ n =
      with_number-here v.floors i n is.0 within in
      let floors_grow : (j : ℕ) → number_of v.floors j ≤ number_of (with_number v.floors i n) j =
      with_number-grows v.floors i n is.0 within (omega arith) in
      let visible = c.visible in let scheduled = c.scheduled in
      let fit : WordsFit log workers r.holders.written r.holders.indexed y = record {
        heads = heads_still x y c.heads r.words.heads;
        progress = λ j is_j. dite (ℕ_discrete j i)
            (λ same. let e : y.progress j ≡ n = ap y.progress same ∙ here in record {
              positive = omega arith;
              owned = ap (owner_of workers) e ∙ (owned ∙ sym same);
              below = λ q positive_q below own. inst_same log workers k x y q c.heads
                  (f.installed q (least q positive_q (omega arith) (own ∙ same))).0;
            })
            (λ ne. progress_still x y j c.heads (c.else j is_j ne) (r.words.progress j is_j));
        visible = let a = r.words.visible in omega arith;
        scheduled = λ q is_q. let a =
            r.words.scheduled q (inst_same log workers k y x q (back x y c.heads) is_q) in
            omega arith;
        records = let a = r.words.records.least in let b = r.words.records.most in record {
          least = omega arith;
          most = omega arith;
          within = r.words.records.within;
          stored = λ q is_q below. c.links q is_q ∙ r.words.records.stored q is_q below;
          blank = λ q is_q above. c.links q is_q ∙ r.words.records.blank q is_q above;
        };
        index = let a = r.words.index.not_above in record {
          first = r.words.index.first;
          not_above = omega arith;
          all = λ q is_q below. r.words.index.all q is_q (omega arith);
          buckets = λ j below. c.buckets j below ∙ r.words.index.buckets j below;
        };
      } in
      let mine : Seat log workers k r.holders y id w = record {
        same_log = refl;
        same_workers = refl;
        roles = f.roles;
        installed = λ q is_q. let h = f.installed q is_q in
            (inst_same log workers k x y q c.heads h.0, h.1);
        all_installed = λ q is_q own. f.all_installed q
            (inst_same log workers k y x q (back x y c.heads) is_q) own;
        once = f.once;
        count = with_number-length v.floors i n ∙ f.count;
        floors = λ j is_j. dite (ℕ_discrete j i)
            (λ same. let e : number_of (with_number v.floors i n) j
            ≡ n = ap (number_of (with_number v.floors i n)) same ∙ floor_here in
            let at_j : y.progress j ≡ n = ap y.progress same ∙ here in record {
              positive = omega arith;
              owned = ap (owner_of workers) e ∙ (owned ∙ sym same);
              reached = omega arith;
            })
            (λ ne. let same = with_number-else v.floors i j n is.0 is_j.0 ne in
            let h = f.floors j is_j in let reached = h.reached in let some_h = h.positive in
            let still = c.else j is_j ne in record {
              positive = omega arith;
              owned = ap (owner_of workers) same ∙ h.owned;
              reached = omega arith;
            });
        own_floors = λ j own. dite (ℕ_discrete j i)
            (λ same. ap (number_of (with_number v.floors i n)) same ∙
            (floor_here ∙ (sym here ∙ ap y.progress (sym same))))
            (λ ne. with_number-else v.floors i j n is.0 (f.roles j own).0.0 ne ∙
            (f.own_floors j own ∙ sym (c.else j (f.roles j own).0 ne)));
        place = let a = f.place in omega arith;
        scheduled = let a = f.scheduled in omega arith;
        end = f.end;
        snapshot = λ own. let h = f.snapshot own in
            record {
              holder = h.holder;
              place = h.place ∙ sym c.visible;
              below = λ j is_j. let a = h.below j is_j in let b = floors_grow j in omega arith;
            };
        scheduler = λ own. let h = f.scheduler own in
            record {
              holder = h.holder;
              scheduled = h.scheduled ∙ sym c.scheduled;
              written = h.written;
              indexed = h.indexed;
            };
        looks = All-weaker (IsLookOf (names_in log.txns) v.floors v.place v.scheduled)
            (IsLookOf (names_in log.txns) (with_number v.floors i n) v.place v.scheduled)
            (look_more (names_in log.txns) v.floors
            (with_number v.floors i n) v.place v.place v.scheduled v.scheduled floors_grow
            (omega arith) (omega arith)) v.looks f.looks;
        found = All-weaker (IsFoundInstalled log workers x) (IsFoundInstalled log workers y)
            (found_grown log workers k x y (same_grown log workers k x y c.heads)) v.looks f.found;
      } in
      let rule = moved log workers k s r id v w
      (set s.words (progress_word log i) n) s.homes r.holders.written r.holders.indexed at
      (record { worker_roles = refl; snapshot_role = refl; scheduler_role = refl })
      (length-set s.words (progress_word log i) n ∙ r.count) fit mine
      (λ j u ne e. stays log workers k r.holders r.holders.written r.holders.indexed x y j u
      (record {
        heads = same_grown log workers k x y c.heads;
        progress = grows_by;
        scheduled = omega arith;
        visible = omega arith;
      })
      (record {
        installs = λ q is_q own. inst_same log workers k y x q (back x y c.heads) is_q;
        progress = λ q own. let h = (r.each j u e).roles q own in
            c.else q h.0 (λ same. ne (sym h.1 ∙ (ap r.holders.worker same ∙ (f.roles i role).1)));
        snapshot = λ own. c.visible;
        scheduler = λ own. (c.scheduled, refl, refl);
      })
      (r.each j u e)) in (
        w,
        keeps,
        tt,
        rule,
        (λ q is_q same_word. let same : i ≡ q = omega (arith, is.0, is_q.0) in
            subst (λ (q : ℕ). Becomes me (w, me.1) (with_floor v q n)) same
            (refl, (λ table. sound log workers k table r.holders y id w fit mine))),
      )

  -- ---- the visible place

  pub stores_visible_step : (slots id p : ℕ) → v.snapshot ≡ true → p ≤ length log.txns
      → ((i : ℕ) → IsWorker workers i → end_of log.txns p < number_of v.floors i) → v.place ≤ p
      → Allows (Rule log workers k) slots id me (visible_word log workers) (λ _. p)
      (λ _. stores_visible (step slots (visible_word log workers) p 0 none) me p)
  stores_visible_step slots id p role place below grows_place s r _ at _ =
      let x : BoardWords = words_in log workers k s in
      let y : BoardWords = board_words log workers (set s.words (visible_word log workers) p) in
      let c = visible_set log workers s.words p r.count in
      let f = r.each id v at in
      let g = f.snapshot role in
      let here = c.here in let e = g.place in let scheduled = c.scheduled in
      let w : Known = with_place v p in
      let end_installed : end_of log.txns p ≢ 0
      → IsInstalled log workers x (end_of log.txns p) = λ ne.
      let q : ℕ = end_of log.txns p in
      let own = owner_is log workers k q in
      let floor = (f.floors (owner_of workers q) own).reached in
      let a = below (owner_of workers q) own in
      (r.words.progress (owner_of workers q) own).below q (omega arith) (omega arith) refl in
      let ends : end_of log.txns p ≤ x.scheduled =
      dite (ℕ_discrete (end_of log.txns p) 0) (λ z. omega arith)
      (λ ne. r.words.scheduled (end_of log.txns p) (end_installed ne)) in
      let fit : WordsFit log workers r.holders.written r.holders.indexed y = record {
        heads = heads_still x y c.heads r.words.heads;
        progress = λ j is_j. progress_still x y j c.heads (c.progress j is_j)
            (r.words.progress j is_j);
        visible = omega arith;
        scheduled = λ q is_q. let a =
            r.words.scheduled q (inst_same log workers k y x q (back x y c.heads) is_q) in
            omega arith;
        records = let a = r.words.records.least in let b = r.words.records.most in record {
          least = omega arith;
          most = omega arith;
          within = r.words.records.within;
          stored = λ q is_q under. c.links q is_q ∙ r.words.records.stored q is_q under;
          blank = λ q is_q above. c.links q is_q ∙ r.words.records.blank q is_q above;
        };
        index = let a = r.words.index.not_above in record {
          first = r.words.index.first;
          not_above = omega arith;
          all = λ q is_q under. r.words.index.all q is_q (omega arith);
          buckets = λ j under. c.buckets j under ∙ r.words.index.buckets j under;
        };
      } in
      let mine : Seat log workers k r.holders y id w = record {
        same_log = refl;
        same_workers = refl;
        roles = f.roles;
        installed = λ q is_q. let h = f.installed q is_q in
            (inst_same log workers k x y q c.heads h.0, h.1);
        all_installed = λ q is_q own. f.all_installed q
            (inst_same log workers k y x q (back x y c.heads) is_q) own;
        once = f.once;
        count = f.count;
        floors = λ j is_j. let h = f.floors j is_j in let reached = h.reached in
            let still = c.progress j is_j in
            record { positive = h.positive; owned = h.owned; reached = omega arith };
        own_floors = λ j own. f.own_floors j own ∙ sym (c.progress j (f.roles j own).0);
        place = omega arith;
        scheduled = let a = f.scheduled in omega arith;
        end = omega arith;
        snapshot = λ own. record { holder = g.holder; place = sym here; below = below };
        scheduler = λ own. let h = f.scheduler own in let z = h.scheduled in
            record {
              holder = h.holder;
              scheduled = omega arith;
              written = h.written;
              indexed = h.indexed;
            };
        looks = All-weaker (IsLookOf (names_in log.txns) v.floors v.place v.scheduled)
            (IsLookOf (names_in log.txns) v.floors p (max v.scheduled (end_of log.txns p)))
            (look_more (names_in log.txns) v.floors v.floors v.place p v.scheduled
            (max v.scheduled (end_of log.txns p)) (λ i. omega arith) grows_place (omega arith))
            v.looks f.looks;
        found = All-weaker (IsFoundInstalled log workers x) (IsFoundInstalled log workers y)
            (found_grown log workers k x y (same_grown log workers k x y c.heads)) v.looks f.found;
      } in
      let rule = moved log workers k s r id v w
      (set s.words (visible_word log workers) p) s.homes r.holders.written r.holders.indexed at
      (record { worker_roles = refl; snapshot_role = refl; scheduler_role = refl })
      (length-set s.words (visible_word log workers) p ∙ r.count) fit mine
      (λ j u ne at_j. stays log workers k r.holders r.holders.written r.holders.indexed x y j u
      (record {
        heads = same_grown log workers k x y c.heads;
        progress = λ q is_q. let same = c.progress q is_q in
            omega arith;
        scheduled = omega arith;
        visible = omega arith;
      })
      (record {
        installs = λ q is_q own. inst_same log workers k y x q (back x y c.heads) is_q;
        progress = λ q own. c.progress q ((r.each j u at_j).roles q own).0;
        snapshot = λ own. absurd (ne (sym ((r.each j u at_j).snapshot own).holder ∙ g.holder));
        scheduler = λ own. (c.scheduled, refl, refl);
      })
      (r.each j u at_j)) in
      (w, keeps, tt, rule, (refl, (λ table. sound log workers k table r.holders y id w fit mine)))
