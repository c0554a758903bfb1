-- The exchange of a head keeps the rule.
use Rattle.std.proofs.Common.{◌≡◌, ◌≢◌, ℕ, ◌<◌, ◌≤◌, ◌==◌, ◌⊎◌, inl, inr, ⊎_elim, Bool, true, false}
use Rattle.std.proofs.Common.{List, ◌∷◌, get_or, set, refl, sym, ap, subst, ◌∙◌, arith, eq-eqb}
use Rattle.std.proofs.Common.{ne_eqb, lt_of_not-le, length-set}
use Rattle.std.proofs.lemmas.List.Elements.{All-push, All-weaker}
use mathlib.Core.Logic.{dite}
use mathlib.Core.Option.{some, none}
use native.Mathlib.Decide.{dec_le, ℕ_discrete}
use lib.ListN.{get_elem?}
use prog.Atomic.{either}
use Rattle.atomic_table.specs.Seated.{TableId}
use Rattle.atomic_table.specs.Table.{step, keeps, stepped, Allows}
use Rattle.c5_definitions.specs.WriteNumbers.{names_in, row_of, predecessor_of, owner_of, IsWrite}
use Rattle.c5_definitions.specs.WriteNumbers.{IsFirstWrite}
use Rattle.c5_frames.specs.Log.{Log}
use Rattle.c5_rows.specs.declared.writes.RowName.{RowName}
use Rattle.c5_board.specs.declared.known.Known.{Known}
use Rattle.c5_board.specs.declared.known.Look.{Look}
use Rattle.c5_board.specs.declared.known.Look.TheVariants.{ExchangeHead}
use Rattle.c5_rows.specs.Numbers.{is_among}
use Rattle.c5_board.specs.Words.{head_word}
use Rattle.c5_board.specs.Boards.{pass_of}
use Rattle.c5_board.specs.Passes.{IsLookOf, IsHeadOf, CoversRow}
use Rattle.c5_board.specs.Rule.{BoardWords, board_words, IsInstalled, IsFoundInstalled, WordsFit}
use Rattle.c5_board.specs.Views.{with_installed, with_look}
use Rattle.c5_board.specs.StepFacts.{Seated, Becomes, exchanges_head}
use Rattle.c5_board.proofs.Facts.{Facts}
use Rattle.c5_board.proofs.WordLemmas.{HeadSet, head_set}
use Rattle.c5_board.proofs.SetLemmas.{not_both, has-here, has-more, has-split, distinct-more}
use Rattle.c5_board.proofs.SeatLemmas.{St, Rule, Seat, words_in, found_grown, inst_grown, stays}
use Rattle.c5_board.proofs.SeatLemmas.{moved, learned, sound, covers}
use Rattle.c5_board.proofs.LoadSteps.{look_fits, loaded}

module _ (me : Seated) (k : Facts me.0.log me.0.workers) where
  abbrev log : Log
  log = me.0.log

  abbrev workers : ℕ
  workers = me.0.workers

  abbrev v : Known
  v = me.0

  abbrev names : List RowName
  names = names_in log.txns

  module _ (w : ℕ) (is : IsWrite (names_in log.txns) w) (s : St log workers k)
      (r : Rule log workers k s) where
    abbrev x : BoardWords
    x = words_in log workers k s

    abbrev row : ℕ
    row = row_of (names_in log.txns) w

    abbrev before : ℕ
    before = predecessor_of (names_in log.txns) w

    abbrev n : ℕ
    n = get_or s.words (head_word (row_of (names_in log.txns) w)) 0

    row_is : IsFirstWrite (names_in log.txns) (row_of (names_in log.txns) w)
    row_is = k.rows.first w is

    head_is : IsHeadOf (names_in log.txns) (row_of (names_in log.txns) w) n
    head_is = r.words.heads.rows (row_of (names_in log.txns) w) row_is

    -- a head that isn't 0 is installed
    head_installed : n ≢ 0 → IsInstalled log workers x n
    head_installed ne = let h = head_is ne in
        let same : x.head (row_of (names_in log.txns) n) ≡ n = ap x.head h.1 in
        record { write = h.0; reached = omega arith }

    head_scheduled : n ≤ x.scheduled
    head_scheduled = dite (ℕ_discrete n 0) (λ z. omega arith)
        (λ ne. r.words.scheduled n (head_installed ne))

    -- if w isn't installed, the head hasn't reached it, so it is at most the predecessor
    head_small : (id : ℕ) → get_elem? s.views id ≡ some v
        → is_among (owner_of workers w) v.roles ≡ true → is_among w v.installed ≡ false
        → n ≤ predecessor_of (names_in log.txns) w
    head_small id at role fresh = dite (ℕ_discrete n 0) (λ z. omega arith)
        (λ ne. let h = head_is ne in elim (dec_le w n) [
          | yes le ↦ absurd
              (not_both (is_among w v.installed)
              ((r.each id v at).all_installed w (record { write = is; reached = le }) role) fresh)
          | no gt ↦ k.predecessors.greatest n w h.0 is h.1 (lt_of_not-le gt)
        ])

    -- ---- the head is the predecessor: w is installed

    module _ (id : ℕ) (at : get_elem? s.views id ≡ some v)
        (role : is_among (owner_of workers w) v.roles ≡ true) (within : w ≤ v.scheduled)
        (fresh : is_among w v.installed ≡ false)
        (hit : n ≡ predecessor_of (names_in log.txns) w) where
      abbrev y : BoardWords
      y = board_words log workers (set s.words (head_word (row_of (names_in log.txns) w)) w)

      set_head : HeadSet log workers x y (row_of (names_in log.txns) w) w
      set_head = head_set log workers s.words w r.count (row_of (names_in log.txns) w) row_is.write

      heads_grow : (q : ℕ) → IsWrite (names_in log.txns) q → x.head q ≤ y.head q
      heads_grow q is_q = dite (ℕ_discrete q (row_of (names_in log.txns) w))
          (λ same. let a = ap x.head same in let b = ap y.head same in let c = set_head.here in
          let below = k.predecessors.below w is in omega arith)
          (λ ne. let c = set_head.else q is_q ne in omega arith)

      now_installed : IsInstalled log workers y w
      now_installed = let c = set_head.here in record { write = is; reached = omega arith }

      -- nothing else is installed by this step
      installs : (q : ℕ) → IsInstalled log workers y q → (q ≡ w) ⊎ IsInstalled log workers x q
      installs q is_q =
          dite (ℕ_discrete (row_of (names_in log.txns) q) (row_of (names_in log.txns) w))
          (λ same. let a = ap x.head same in let b = ap y.head same in let c = set_head.here in
          let reached = is_q.reached in dite (ℕ_discrete q w) (λ e. inl e)
          (λ ne. let small = k.predecessors.greatest q w is_q.write is same (omega arith) in
          inr (record { write = is_q.write; reached = omega arith })))
          (λ other. let c = set_head.else (row_of (names_in log.txns) q)
          (k.rows.first q is_q.write).write other in let reached = is_q.reached in
          inr (record { write = is_q.write; reached = omega arith }))

      fit : WordsFit log workers r.holders.written r.holders.indexed y
      fit = let scheduled = set_head.scheduled in let visible = set_head.visible in
          let own = (r.each id v at).scheduled in record {
            heads = record {
              rows = λ q is_q. dite (ℕ_discrete q (row_of (names_in log.txns) w))
                  (λ same. let e : y.head q ≡ w = ap y.head same ∙ set_head.here in
                  λ ne. (
                    subst (IsWrite (names_in log.txns)) (sym e) is,
                    ap (row_of (names_in log.txns)) e ∙ sym same,
                  ))
                  (λ ne. subst (IsHeadOf (names_in log.txns) q)
                  (sym (set_head.else q is_q.write ne)) (r.words.heads.rows q is_q));
              others = λ q is_q not_first. set_head.else q is_q
                  (λ same. not_first
                  (ap (row_of (names_in log.txns)) same ∙ (row_is.first ∙ sym same)))
                  ∙ r.words.heads.others q is_q not_first;
            };
            progress = λ i is_i. let p = r.words.progress i is_i in
                let same = set_head.progress i is_i in let positive = p.positive in record {
                  positive = omega arith;
                  owned = ap (owner_of workers) same ∙ p.owned;
                  below = λ q positive_q below own_q. inst_grown log workers k x y q heads_grow
                      (p.below q positive_q (omega arith) own_q);
                };
            visible = let a = r.words.visible in omega arith;
            scheduled = λ q is_q. ⊎_elim (λ (e : q ≡ w). omega arith)
                (λ (old : IsInstalled log workers x q).
                let a = r.words.scheduled q old in omega arith)
                (installs q is_q);
            records = let a = r.words.records.least in let b = r.words.records.most in record {
              least = omega arith;
              most = omega arith;
              within = r.words.records.within;
              stored = λ q is_q below. set_head.links q is_q ∙ r.words.records.stored q is_q below;
              blank = λ q is_q above. set_head.links q is_q ∙ r.words.records.blank q is_q above;
            };
            index = let a = r.words.index.not_above in record {
              first = r.words.index.first;
              not_above = omega arith;
              all = λ q is_q below. r.words.index.all q is_q (omega arith);
              buckets = λ j below. set_head.buckets j below ∙ r.words.index.buckets j below;
            };
          }

      abbrev look : Look
      look = ExchangeHead w n

      mine : Seat log workers k r.holders y id (with_installed v w (ExchangeHead w n))
      mine = let f = r.each id v at in let small = k.predecessors.below w is in
          let scheduled = set_head.scheduled in let visible = set_head.visible in record {
            same_log = refl;
            same_workers = refl;
            roles = f.roles;
            installed = λ q has_q. ⊎_elim
                (λ (e : q ≡ w). subst
                (λ (q : ℕ). IsInstalled log workers y q
                × (is_among (owner_of workers q) v.roles ≡ true)) (sym e) (now_installed, role))
                (λ (t : is_among q v.installed ≡ true). let h = f.installed q t in
                (inst_grown log workers k x y q heads_grow h.0, h.1))
                (has-split q w v.installed has_q);
            all_installed = λ q is_q own_q. ⊎_elim
                (λ (e : q ≡ w). subst (λ (q : ℕ). is_among q (w ∷ v.installed) ≡ true) (sym e)
                (has-here w v.installed))
                (λ (old : IsInstalled log workers x q). has-more q w v.installed
                (f.all_installed q old own_q))
                (installs q is_q);
            once = distinct-more w v.installed fresh f.once;
            count = f.count;
            floors = λ i is_i. let h = f.floors i is_i in let reached = h.reached in
                let same = set_head.progress i is_i in
                record { positive = h.positive; owned = h.owned; reached = omega arith };
            own_floors = λ i own_i. f.own_floors i own_i ∙ sym
                (set_head.progress i (f.roles i own_i).0);
            place = let a = f.place in omega arith;
            scheduled = let a = f.scheduled in omega arith;
            end = f.end;
            snapshot = λ own_s. let h = f.snapshot own_s in
                record {
                  holder = h.holder;
                  place = h.place ∙ sym set_head.visible;
                  below = h.below;
                };
            scheduler = λ own_s. let h = f.scheduler own_s in
                record {
                  holder = h.holder;
                  scheduled = h.scheduled ∙ sym set_head.scheduled;
                  written = h.written;
                  indexed = h.indexed;
                };
            looks = All-push (IsLookOf (names_in log.txns) v.floors v.place v.scheduled) v.looks
                (ExchangeHead w n) f.looks (head_is, omega arith);
            found = All-push (IsFoundInstalled log workers y) v.looks (ExchangeHead w n)
                (All-weaker (IsFoundInstalled log workers x) (IsFoundInstalled log workers y)
                (found_grown log workers k x y heads_grow) v.looks f.found)
                (λ ne. inst_grown log workers k x y n heads_grow (head_installed ne));
          }

      installs_w : Rule log workers k
          (stepped s (head_word (row_of (names_in log.txns) w)) w id me.1
          (with_installed v w (ExchangeHead w n)) keeps)
      installs_w = let f = r.each id v at in let scheduled = set_head.scheduled in
          let visible = set_head.visible in
          moved log workers k s r id v (with_installed v w (ExchangeHead w n))
          (set s.words (head_word (row_of (names_in log.txns) w)) w) s.homes r.holders.written
          r.holders.indexed at
          (record { worker_roles = refl; snapshot_role = refl; scheduler_role = refl })
          (length-set s.words (head_word (row_of (names_in log.txns) w)) w ∙ r.count) fit mine
          (λ j u ne at_j. stays log workers k r.holders r.holders.written r.holders.indexed x y j u
          (record {
            heads = heads_grow;
            progress = λ i is_i. let same = set_head.progress i is_i in
                omega arith;
            scheduled = omega arith;
            visible = omega arith;
          })
          (record {
            installs = λ q is_q own_q. ⊎_elim
                (λ (e : q ≡ w). absurd
                (ne (sym ((r.each j u at_j).roles (owner_of workers q) own_q).1 ∙
                (ap (λ (z : ℕ). r.holders.worker (owner_of workers z)) e ∙
                (f.roles (owner_of workers w) role).1))))
                (λ (old : IsInstalled log workers x q). old)
                (installs q is_q);
            progress = λ i own_i. set_head.progress i ((r.each j u at_j).roles i own_i).0;
            snapshot = λ own_s. set_head.visible;
            scheduler = λ own_s. (set_head.scheduled, refl, refl);
          })
          (r.each j u at_j))

  pub exchanges_head_step : (slots id w : ℕ) → IsWrite (names_in log.txns) w
      → is_among (owner_of workers w) v.roles ≡ true → w ≤ v.scheduled
      → is_among w v.installed ≡ false
      → Allows (Rule log workers k) slots id me (head_word (row_of (names_in log.txns) w))
      (λ n. either (n == predecessor_of (names_in log.txns) w) w n)
      (exchanges_head
      (step slots (head_word (row_of (names_in log.txns) w))
      (predecessor_of (names_in log.txns) w) w none) me)
  exchanges_head_step slots id w is role within fresh s r _ at _ =
      let x : BoardWords = words_in log workers k s in
      let f = r.each id v at in
      let i : ℕ = head_word (row_of (names_in log.txns) w) in
      let n : ℕ = get_or s.words (head_word (row_of (names_in log.txns) w)) 0 in
      let before : ℕ = predecessor_of (names_in log.txns) w in
      let small = head_small w is s r id at role fresh in
      let below = k.predecessors.below w is in
      let covered : (table : TableId)
      → CoversRow (pass_of table v) (row_of (names_in log.txns) w) n =
      λ table. covers log workers k table s r id v (row_of (names_in log.txns) w) f in
      dite (ℕ_discrete n before)
      (λ hit. let u : Known = with_installed v w (ExchangeHead w n) in
      let rule = installs_w w is s r id at role within fresh hit in (
        u,
        keeps,
        tt,
        subst (λ (b : Bool). Rule log workers k (stepped s i (either b w n) id me.1 u keeps))
            (sym (eq-eqb n before hit)) rule,
        (λ q is_q word first second. subst
            (λ (q : ℕ). (n ≡ before → Becomes me (u, me.1) (with_installed v q (ExchangeHead q n)))
            × (n ≢ before → Becomes me (u, me.1) (with_look v (ExchangeHead q n)) × (n < before))
            × IsHeadOf (names_in log.txns) (row_of (names_in log.txns) q) n
            × ((table : TableId)
            → CoversRow (pass_of table v) (row_of (names_in log.txns) q) n)) second (
              (λ _. (
                refl,
                (λ table. sound log workers k table r.holders
                    (board_words log workers (set s.words i w)) id u
                    (fit w is s r id at role within fresh hit)
                    (mine w is s r id at role within fresh hit)),
              )),
              (λ miss. absurd (miss hit)),
              head_is w is s r,
              covered,
            )),
      ))
      (λ miss. let u : Known = with_look v (ExchangeHead w n) in
      let known = look_fits me k s r id v (ExchangeHead w n) f (head_is w is s r, omega arith)
      (λ ne. head_installed w is s r ne) in (
        u,
        keeps,
        tt,
        subst (λ (b : Bool). Rule log workers k (stepped s i (either b w n) id me.1 u keeps))
            (sym (ne_eqb n before miss))
            (loaded me k s i id u
            (learned log workers k s r id v u at
            (record { worker_roles = refl; snapshot_role = refl; scheduler_role = refl })
            known)),
        (λ q is_q word first second. subst
            (λ (q : ℕ). (n ≡ before → Becomes me (u, me.1) (with_installed v q (ExchangeHead q n)))
            × (n ≢ before → Becomes me (u, me.1) (with_look v (ExchangeHead q n)) × (n < before))
            × IsHeadOf (names_in log.txns) (row_of (names_in log.txns) q) n
            × ((table : TableId)
            → CoversRow (pass_of table v) (row_of (names_in log.txns) q) n)) second (
              (λ hit. absurd (miss hit)),
              (λ _. (
                (refl, (λ table. sound log workers k table r.holders x id u r.words known)),
                omega arith,
              )),
              head_is w is s r,
              covered,
            )),
      ))
