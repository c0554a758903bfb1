-- A split and a join keep the rule.
use Rattle.std.proofs.Common.{◌≡◌, ◌≢◌, ℕ, zero, suc, ◌-◌, ◌<◌, ◌≤◌, ◌==◌, ◌⊎◌, inl, inr, ⊎_elim}
use Rattle.std.proofs.Common.{max, Bool, true, false, cond, ◌||◌, true≢false, List, [], ◌∷◌, ◌++◌}
use Rattle.std.proofs.Common.{length, set, refl, sym, ap, subst, ◌∙◌, arith, eq-eqb, ne_eqb}
use Rattle.std.proofs.Common.{lt_of_not-le, length-set}
use Rattle.std.specs.Prelude.{All, not, nat_eq}
use Rattle.std.specs.List.{IsDistinct}
use Rattle.std.proofs.lemmas.Bool.{eqb-true}
use Rattle.std.proofs.lemmas.List.Elements.{All-nil, All-append, All-weaker}
use mathlib.Core.Logic.{dite}
use mathlib.Core.Option.{some, some-injective, some-ne-none}
use native.Mathlib.Decide.{dec_le, ℕ_discrete}
use lib.ListN.{get_elem?}
use Rattle.atomic_table.specs.Table.{Splits, Joins}
use Rattle.atomic_table.proofs.Lists.{at_set, set_else, at_longer, at_last}
use Rattle.c5_definitions.specs.WriteNumbers.{names_in, end_of, owner_of}
use Rattle.c5_frames.specs.Log.{Log}
use Rattle.c5_board.specs.declared.known.Known.{Known}
use Rattle.c5_board.specs.declared.known.Look.{Look}
use Rattle.c5_board.specs.Sets.{without, number_of, greater_of_each}
use Rattle.c5_rows.specs.Numbers.{is_among, numbers_from}
use Rattle.c5_board.specs.Boards.{IsWorker}
use Rattle.c5_board.specs.Parts.{owned_by, owned_by_others}
use Rattle.c5_board.specs.Passes.{IsLookOf}
use Rattle.c5_board.specs.Rule.{BoardWords, Holders, IsFoundInstalled}
use Rattle.c5_board.specs.Views.{Taken, part_view, rest_view, joined_view, spent_view}
use Rattle.c5_board.proofs.Facts.{Facts}
use Rattle.c5_board.proofs.SetLemmas.{not_both, or_left, or_right, has-here, has_front, has_back}
use Rattle.c5_board.proofs.SetLemmas.{has_part, one_number, has-filter, filter-has, greater-length}
use Rattle.c5_board.proofs.SetLemmas.{greater-of, length-range, range-at, distinct-none}
use Rattle.c5_board.proofs.SetLemmas.{distinct-filter, distinct-append}
use Rattle.c5_board.proofs.SeatLemmas.{there, one_view, look_more, St, Rule, Seat, words_in}

-- what is in a longer list was in the list, or is the new element at its end
snoc : {A : Type 0} (l : List A) (a b : A) (j : ℕ) → get_elem? (l ++ a ∷ []) j ≡ some b
    → ((get_elem? l j ≡ some b) × (j < length l)) ⊎ ((j ≡ length l) × (a ≡ b))
snoc [] a b zero e = inr (refl, some-injective a b e)
snoc [] a b (suc j) e = absurd (some-ne-none b (sym e))
snoc (x ∷ xs) a b zero e = inl (e, omega arith)
snoc (x ∷ xs) a b (suc j) e = ⊎_elim
    (λ (t : (get_elem? xs j ≡ some b) × (j < length xs)). inl (t.0, omega (arith, t.1)))
    (λ (t : (j ≡ length xs) × (a ≡ b)). inr (ap suc t.0, t.1)) (snoc xs a b j e)

inside : {A : Type 0} (l : List A) (j : ℕ) (b : A) → get_elem? l j ≡ some b → j < length l
inside [] j b e = absurd (some-ne-none b (sym e))
inside (x ∷ xs) zero b e = omega arith
inside (x ∷ xs) (suc j) b e = let r = inside xs j b e in omega arith

not_not : (b : Bool) → not b ≡ true → b ≡ false
not_not true e = absurd (true≢false (sym e))
not_not false e = refl

-- ---- who is taken

-- the role of t goes to a new seat; 0 isn't a role
abbrev passed : ℕ → ℕ → (ℕ → ℕ) → ℕ → ℕ
passed t new holder i = cond (t == 0) (holder i) (cond (i == t) new (holder i))

passed_here : (t new : ℕ) (holder : ℕ → ℕ) → t ≢ 0 → passed t new holder t ≡ new
passed_here t new holder ne = rw (ne_eqb t 0 ne, eq-eqb t t refl) refl

passed_else : (t new : ℕ) (holder : ℕ → ℕ) (i : ℕ) → (t ≢ 0 → i ≢ t)
    → passed t new holder i ≡ holder i
passed_else t new holder i other = dite (ℕ_discrete t 0)
    (λ e. rw (eq-eqb t 0 e) refl)
    (λ ne. rw (ne_eqb t 0 ne, ne_eqb i t (other ne)) refl)

-- a flag's role goes to the new seat
flagged : (b : Bool) (new old seat : ℕ) → (b ≡ true → new ≡ seat) → (b ≡ false → old ≡ seat)
    → cond b new old ≡ seat
flagged true new old seat on off = on refl
flagged false new old seat on off = off refl

-- ---- the lists of the two parts

module _ (t : ℕ) where
  abbrev part_roles : List ℕ
  part_roles = cond (t == 0) [] (t ∷ [])

  pub part-has : (i : ℕ) → is_among i (cond (t == 0) [] (t ∷ [])) ≡ true → (i ≡ t) × (t ≢ 0)
  part-has i = at (t == 0) refl
    where
      at : (b : Bool) → (t == 0) ≡ b → is_among i (cond b [] (t ∷ [])) ≡ true → (i ≡ t) × (t ≢ 0)
      at true e h = absurd (true≢false (sym h))
      at false e h = (one_number i t h, (λ z. not_both (t == 0) (eq-eqb t 0 z) e))

  pub has-part : t ≢ 0 → is_among t (cond (t == 0) [] (t ∷ [])) ≡ true
  has-part ne = rw (ne_eqb t 0 ne) (has-here t [])

  pub rest-has : (i : ℕ) (roles : List ℕ)
      → is_among i (cond (t == 0) roles (without t roles)) ≡ true → (is_among i roles ≡ true)
      × (t ≢ 0 → i ≢ t)
  rest-has i roles = at (t == 0) refl
    where
      at : (b : Bool) → (t == 0) ≡ b → is_among i (cond b roles (without t roles)) ≡ true
          → (is_among i roles ≡ true) × (t ≢ 0 → i ≢ t)
      at true e h = (h, (λ ne. absurd (ne (eqb-true t 0 e))))
      at false e h = let p = has-filter (λ m. not (t == m)) i roles h in
          (p.0, (λ _ same. not_both (t == i) (eq-eqb t i (sym same)) (not_not (t == i) p.1)))

  pub has-rest : (i : ℕ) (roles : List ℕ) → is_among i roles ≡ true → (t ≢ 0 → i ≢ t)
      → is_among i (cond (t == 0) roles (without t roles)) ≡ true
  has-rest i roles h other = dite (ℕ_discrete t 0)
      (λ e. rw (eq-eqb t 0 e) h)
      (λ ne. rw (ne_eqb t 0 ne)
      (filter-has (λ m. not (t == m)) i roles h
      (ap not (ne_eqb t i (λ same. other ne (sym same))))))

  module _ (workers : ℕ) where
    pub part-installed : (w : ℕ) (installed : List ℕ)
        → is_among w (cond (t == 0) [] (owned_by workers t installed)) ≡ true
        → (is_among w installed ≡ true) × (owner_of workers w ≡ t) × (t ≢ 0)
    part-installed w installed = at (t == 0) refl
      where
        at : (b : Bool) → (t == 0) ≡ b → is_among w (cond b [] (owned_by workers t installed))
            ≡ true → (is_among w installed ≡ true) × (owner_of workers w ≡ t) × (t ≢ 0)
        at true e h = absurd (true≢false (sym h))
        at false e h = let p = has-filter (λ w. t == owner_of workers w) w installed h in (
          p.0,
          sym (eqb-true t (owner_of workers w) p.1),
          (λ z. not_both (t == 0) (eq-eqb t 0 z) e),
        )

    pub installed-part : (w : ℕ) (installed : List ℕ) → is_among w installed ≡ true
        → owner_of workers w ≡ t → t ≢ 0
        → is_among w (cond (t == 0) [] (owned_by workers t installed)) ≡ true
    installed-part w installed h own ne =
        rw (ne_eqb t 0 ne)
        (filter-has (λ w. t == owner_of workers w) w installed h
        (eq-eqb t (owner_of workers w) (sym own)))

    pub rest-installed : (w : ℕ) (installed : List ℕ)
        → is_among w (cond (t == 0) installed (owned_by_others workers t installed)) ≡ true
        → (is_among w installed ≡ true) × (t ≢ 0 → owner_of workers w ≢ t)
    rest-installed w installed = at (t == 0) refl
      where
        at : (b : Bool) → (t == 0) ≡ b
            → is_among w (cond b installed (owned_by_others workers t installed)) ≡ true
            → (is_among w installed ≡ true) × (t ≢ 0 → owner_of workers w ≢ t)
        at true e h = (h, (λ ne. absurd (ne (eqb-true t 0 e))))
        at false e h = let p = has-filter (λ w. not (t == owner_of workers w)) w installed h in (
          p.0,
          (λ _ same. not_both (t == owner_of workers w)
              (eq-eqb t (owner_of workers w) (sym same)) (not_not (t == owner_of workers w) p.1)),
        )

    pub installed-rest : (w : ℕ) (installed : List ℕ) → is_among w installed ≡ true
        → (t ≢ 0 → owner_of workers w ≢ t)
        → is_among w (cond (t == 0) installed (owned_by_others workers t installed)) ≡ true
    installed-rest w installed h other = dite (ℕ_discrete t 0)
        (λ e. rw (eq-eqb t 0 e) h)
        (λ ne. rw (ne_eqb t 0 ne)
        (filter-has (λ w. not (t == owner_of workers w)) w installed h
        (ap not (ne_eqb t (owner_of workers w) (λ same. other ne (sym same))))))

    pub part-once : (installed : List ℕ) → IsDistinct nat_eq installed
        → IsDistinct nat_eq (cond (t == 0) [] (owned_by workers t installed))
    part-once installed once = at (t == 0)
      where
        at : (b : Bool) → IsDistinct nat_eq (cond b [] (owned_by workers t installed))
        at true = distinct-none
        at false = distinct-filter (λ w. t == owner_of workers w) installed once

    pub rest-once : (installed : List ℕ) → IsDistinct nat_eq installed
        → IsDistinct nat_eq (cond (t == 0) installed (owned_by_others workers t installed))
    rest-once installed once = at (t == 0)
      where
        at : (b : Bool) → IsDistinct nat_eq (cond b installed (owned_by_others workers t installed))
        at true = once
        at false = distinct-filter (λ w. not (t == owner_of workers w)) installed once

module _ (log : Log) (workers : ℕ) (k : Facts log workers) where
  -- ---- a view with other roles, which knows the same

  abbrev reroled : Known → List ℕ → List ℕ → Bool → Bool → ℕ → ℕ → List Look → Known
  reroled v roles installed snapshot scheduler written indexed looks = record {
    log = v.log;
    workers = v.workers;
    roles = roles;
    installed = installed;
    snapshot = snapshot;
    scheduler = scheduler;
    written = written;
    indexed = indexed;
    floors = v.floors;
    place = v.place;
    scheduled = v.scheduled;
    looks = looks;
  }

  -- the roles of a view are a part of those of another, with their installed numbers
  record IsPart (h' : Holders) (seat : ℕ) (v : Known) (roles installed : List ℕ)
      (snapshot scheduler : Bool) (written indexed : ℕ) : Type 0 where
    held : (i : ℕ) → is_among i roles ≡ true → (is_among i v.roles ≡ true) × (h'.worker i ≡ seat)
    numbers : (w : ℕ) → is_among w installed ≡ true → (is_among w v.installed ≡ true)
        × (is_among (owner_of workers w) roles ≡ true)
    all_numbers : (w : ℕ) → is_among w v.installed ≡ true
        → is_among (owner_of workers w) roles ≡ true → is_among w installed ≡ true
    once : IsDistinct nat_eq installed
    sees : snapshot ≡ true → (v.snapshot ≡ true) × (h'.snapshot ≡ seat)
    schedules : scheduler ≡ true → (v.scheduler ≡ true) × (h'.scheduler ≡ seat)
        × (written ≡ v.written) × (indexed ≡ v.indexed)

  part_fits : (h h' : Holders) (x : BoardWords) (old seat : ℕ) (v : Known)
      (roles installed : List ℕ) (snapshot scheduler : Bool) (written indexed : ℕ)
      (looks : List Look)
      → h'.written ≡ h.written → h'.indexed ≡ h.indexed
      → IsPart h' seat v roles installed snapshot scheduler written indexed
      → All (IsLookOf (names_in log.txns) v.floors v.place v.scheduled) looks
      → All (IsFoundInstalled log workers x) looks
      → Seat log workers k h x old v
      → Seat log workers k h' x seat
      (reroled v roles installed snapshot scheduler written indexed looks)
  part_fits h h' x old seat v roles installed snapshot scheduler written indexed looks same_written
      same_indexed p known found f = record {
        same_log = f.same_log;
        same_workers = f.same_workers;
        roles = λ i has_i. let q = p.held i has_i in ((f.roles i q.0).0, q.1);
        installed = λ w has_w. let q = p.numbers w has_w in ((f.installed w q.0).0, q.1);
        all_installed = λ w is own. p.all_numbers w
            (f.all_installed w is (p.held (owner_of workers w) own).0) own;
        once = p.once;
        count = f.count;
        floors = f.floors;
        own_floors = λ i has_i. f.own_floors i (p.held i has_i).0;
        place = f.place;
        scheduled = f.scheduled;
        end = f.end;
        snapshot = λ sees. let q = p.sees sees in let g = f.snapshot q.0 in
            record { holder = q.1; place = g.place; below = g.below };
        scheduler = λ own. let q = p.schedules own in let g = f.scheduler q.0 in record {
          holder = q.1;
          scheduled = g.scheduled;
          written = q.2 ∙ (g.written ∙ sym same_written);
          indexed = q.3 ∙ (g.indexed ∙ sym same_indexed);
        };
        looks = known;
        found = found;
      }

  -- ---- splits

  -- the view holds what is taken
  pub record HoldsTaken (taken : Taken) (v : Known) : Type 0 where
    pub worker : taken.worker ≢ 0 → is_among taken.worker v.roles ≡ true
    pub snapshot : taken.snapshot ≡ true → v.snapshot ≡ true
    pub scheduler : taken.scheduler ≡ true → v.scheduler ≡ true

  module _ (id : ℕ) (v : Known) (taken : Taken) (is : HoldsTaken taken v) (s : St log workers k)
      (r : Rule log workers k s) (at : get_elem? s.views id ≡ some v) where
    abbrev new : ℕ
    new = length s.views

    abbrev x : BoardWords
    x = words_in log workers k s

    -- the taken roles are with the new seat
    abbrev after : Holders
    after = record {
      worker = passed taken.worker (length s.views) r.holders.worker;
      snapshot = cond taken.snapshot (length s.views) r.holders.snapshot;
      scheduler = cond taken.scheduler (length s.views) r.holders.scheduler;
      written = r.holders.written;
      indexed = r.holders.indexed;
    }

    right_fits : Seat log workers k after x (length s.views) (part_view taken v)
    right_fits = let f = r.each id v at in
        part_fits r.holders after x id (length s.views) v
        (cond (taken.worker == 0) [] (taken.worker ∷ []))
        (cond (taken.worker == 0) [] (owned_by v.workers taken.worker v.installed))
        taken.snapshot taken.scheduler
        (cond taken.scheduler v.written 0) (cond taken.scheduler v.indexed 0) [] refl refl
        (record {
          held = λ i has_i. let q = part-has taken.worker i has_i in (
            subst (λ (j : ℕ). is_among j v.roles ≡ true) (sym q.0) (is.worker q.1),
            subst (λ (j : ℕ). passed taken.worker (length s.views) r.holders.worker j
                ≡ length s.views) (sym q.0)
                (passed_here taken.worker (length s.views) r.holders.worker q.1),
          );
          numbers = λ w has_w. let q = part-installed taken.worker v.workers w v.installed has_w in
              let own : owner_of workers w ≡ taken.worker =
              ap (λ (n : ℕ). owner_of n w) (sym f.same_workers) ∙ q.1 in (
                q.0,
                subst (λ (j : ℕ). is_among j (cond (taken.worker == 0) [] (taken.worker ∷ []))
                    ≡ true) (sym own) (has-part taken.worker q.2),
              );
          all_numbers = λ w has_w own. let q = part-has taken.worker (owner_of workers w) own in
              installed-part taken.worker v.workers w v.installed has_w
              (ap (λ (n : ℕ). owner_of n w) f.same_workers ∙ q.0) q.1;
          once = part-once taken.worker v.workers v.installed f.once;
          sees = λ t.
              (is.snapshot t, ap (λ (b : Bool). cond b (length s.views) r.holders.snapshot) t);
          schedules =
              λ t. (
                is.scheduler t,
                ap (λ (b : Bool). cond b (length s.views) r.holders.scheduler) t,
                ap (λ (b : Bool). cond b v.written 0) t,
                ap (λ (b : Bool). cond b v.indexed 0) t,
              );
        })
        (All-nil (IsLookOf (names_in log.txns) v.floors v.place v.scheduled))
        (All-nil (IsFoundInstalled log workers x)) f

    left_fits : Seat log workers k after x id (rest_view taken v)
    left_fits = let f = r.each id v at in
        part_fits r.holders after x id id v
        (cond (taken.worker == 0) v.roles (without taken.worker v.roles))
        (cond (taken.worker == 0) v.installed
        (owned_by_others v.workers taken.worker v.installed))
        (cond taken.snapshot false v.snapshot) (cond taken.scheduler false v.scheduler)
        (cond taken.scheduler 0 v.written) (cond taken.scheduler 0 v.indexed) v.looks refl refl
        (record {
          held = λ i has_i. let q = rest-has taken.worker i v.roles has_i in (
            q.0,
            passed_else taken.worker (length s.views) r.holders.worker i q.1 ∙
                (f.roles i q.0).1,
          );
          numbers = λ w has_w. let q =
              rest-installed taken.worker v.workers w v.installed has_w in (
                q.0,
                has-rest taken.worker (owner_of workers w) v.roles (f.installed w q.0).1
                    (λ ne same. q.1 ne (ap (λ (n : ℕ). owner_of n w) f.same_workers ∙ same)),
              );
          all_numbers = λ w has_w own. let q =
              rest-has taken.worker (owner_of workers w) v.roles own in
              installed-rest taken.worker v.workers w v.installed has_w
              (λ ne same. q.1 ne (ap (λ (n : ℕ). owner_of n w) (sym f.same_workers) ∙ same));
          once = rest-once taken.worker v.workers v.installed f.once;
          sees = rest_sees taken.snapshot refl f;
          schedules = rest_schedules taken.scheduler refl f;
        })
        f.looks f.found f
      where
        rest_sees : (b : Bool) → taken.snapshot ≡ b → Seat log workers k r.holders x id v
            → cond b false v.snapshot ≡ true → (v.snapshot ≡ true)
            × (cond b (length s.views) r.holders.snapshot ≡ id)
        rest_sees true e f h = absurd (true≢false (sym h))
        rest_sees false e f h = (h, (f.snapshot h).holder)

        rest_schedules : (b : Bool) → taken.scheduler ≡ b → Seat log workers k r.holders x id v
            → cond b false v.scheduler ≡ true
            → (v.scheduler ≡ true) × (cond b (length s.views) r.holders.scheduler ≡ id)
            × (cond b 0 v.written ≡ v.written) × (cond b 0 v.indexed ≡ v.indexed)
        rest_schedules true e f h = absurd (true≢false (sym h))
        rest_schedules false e f h = (h, (f.scheduler h).holder, refl, refl)

    other_fits : (j : ℕ) (u : Known) → j ≢ id → get_elem? s.views j ≡ some u
        → Seat log workers k after x j u
    other_fits j u ne at_j = let f = r.each id v at in let g = r.each j u at_j in
        part_fits r.holders after x j j u u.roles u.installed u.snapshot u.scheduler u.written
        u.indexed u.looks refl refl
        (record {
          held = λ i has_i. (
            has_i,
            passed_else taken.worker (length s.views) r.holders.worker i
                (λ some_worker same. ne
                (sym (g.roles i has_i).1 ∙
                (ap r.holders.worker same ∙ (f.roles taken.worker (is.worker some_worker)).1)))
                ∙ (g.roles i has_i).1,
          );
          numbers = λ w has_w. (has_w, (g.installed w has_w).1);
          all_numbers = λ w has_w own. has_w;
          once = g.once;
          sees = λ h. (
            h,
            flagged taken.snapshot (length s.views) r.holders.snapshot j
                (λ t. absurd (ne (sym (g.snapshot h).holder ∙ (f.snapshot (is.snapshot t)).holder)))
                (λ _. (g.snapshot h).holder),
          );
          schedules = λ h. (
            h,
            flagged taken.scheduler (length s.views) r.holders.scheduler j
                (λ t. absurd
                (ne (sym (g.scheduler h).holder ∙ (f.scheduler (is.scheduler t)).holder)))
                (λ _. (g.scheduler h).holder),
            refl,
            refl,
          );
        })
        g.looks g.found g

    abbrev left_views : List Known
    left_views = set s.views id (rest_view taken v)

    at_right : get_elem? (set s.views id (rest_view taken v) ++ part_view taken v ∷ [])
        (length s.views) ≡ some (part_view taken v)
    at_right = at_last (set s.views id (rest_view taken v)) (part_view taken v) (length s.views)
        (length-set s.views id (rest_view taken v))

    at_left : get_elem? (set s.views id (rest_view taken v) ++ part_view taken v ∷ []) id
        ≡ some (rest_view taken v)
    at_left = at_longer (set s.views id (rest_view taken v)) (part_view taken v ∷ []) id
        (rest_view taken v) (there s.views id v (rest_view taken v) at)

    at_else : (j : ℕ) (u : Known) → j ≢ id → get_elem? s.views j ≡ some u
        → get_elem? (set s.views id (rest_view taken v) ++ part_view taken v ∷ []) j ≡ some u
    at_else j u ne at_j = at_longer (set s.views id (rest_view taken v))
        (part_view taken v ∷ []) j u (set_else s.views id j (rest_view taken v) ne ∙ at_j)

    -- a role that isn't taken stays where it is
    stays_held : (seat : ℕ) (role : Known → Bool)
        → (role v ≡ true → role (rest_view taken v) ≡ true) → (u : Known)
        × (get_elem? s.views seat ≡ some u) × (role u ≡ true)
        → (u : Known)
        × (get_elem? (set s.views id (rest_view taken v) ++ part_view taken v ∷ []) seat
        ≡ some u) × (role u ≡ true)
    stays_held seat role keeps_it h = dite (ℕ_discrete seat id)
        (λ e. (
          rest_view taken v,
          subst (λ (j : ℕ). get_elem?
              (set s.views id (rest_view taken v) ++ part_view taken v ∷ []) j
              ≡ some (rest_view taken v)) (sym e) at_left,
          keeps_it (ap role
              (one_view s.views id v h.0 at
              (subst (λ (j : ℕ). get_elem? s.views j ≡ some h.0) e h.1)) ∙ h.2),
        ))
        (λ ne. (h.0, at_else seat h.0 ne h.1, h.2))

    held_by_flag : (b : Bool) (old : ℕ) (role : Known → Bool)
        → (b ≡ true → role (part_view taken v) ≡ true)
        → (b ≡ false → role v ≡ true → role (rest_view taken v) ≡ true)
        → (u : Known) × (get_elem? s.views old ≡ some u) × (role u ≡ true)
        → (u : Known)
        × (get_elem? (set s.views id (rest_view taken v) ++ part_view taken v ∷ [])
        (cond b (length s.views) old) ≡ some u) × (role u ≡ true)
    held_by_flag true old role on off h = (part_view taken v, at_right, on refl)
    held_by_flag false old role on off h = stays_held old role (off refl) h

    worker_held : (i : ℕ) → IsWorker workers i → (u : Known)
        × (get_elem? (set s.views id (rest_view taken v) ++ part_view taken v ∷ [])
        (passed taken.worker (length s.views) r.holders.worker i) ≡ some u)
        × (is_among i u.roles ≡ true)
    worker_held i is_i = dite (ℕ_discrete i taken.worker)
        (λ same. let ne : taken.worker ≢ 0 = λ z. omega (arith, is_i.0) in (
          part_view taken v,
          subst (λ (j : ℕ). get_elem?
              (set s.views id (rest_view taken v) ++ part_view taken v ∷ []) j
              ≡ some (part_view taken v))
              (sym (ap (passed taken.worker (length s.views) r.holders.worker) same ∙ passed_here
              taken.worker (length s.views) r.holders.worker ne)) at_right,
          subst (λ (j : ℕ). is_among j (cond (taken.worker == 0) [] (taken.worker ∷ [])) ≡ true)
              (sym same) (has-part taken.worker ne),
        ))
        (λ other. let h = stays_held (r.holders.worker i) (λ u. is_among i u.roles)
        (λ has_i. has-rest taken.worker i v.roles has_i (λ _. other)) (r.workers_held i is_i) in (
          h.0,
          subst (λ (j : ℕ). get_elem?
              (set s.views id (rest_view taken v) ++ part_view taken v ∷ []) j ≡ some h.0)
              (sym (passed_else taken.worker (length s.views) r.holders.worker i (λ _. other))) h.1,
          h.2,
        ))

    pub split_kept : Rule log workers k
        (record {
          words = s.words;
          homes = s.homes;
          views = set s.views id (rest_view taken v) ++ part_view taken v ∷ [];
        })
    split_kept = record {
      holders = after;
      count = r.count;
      words = r.words;
      each = λ j u e. ⊎_elim
          (λ (t : (get_elem? (set s.views id (rest_view taken v)) j ≡ some u)
          × (j < length (set s.views id (rest_view taken v)))). ⊎_elim
          (λ (q : (j ≡ id) × (rest_view taken v ≡ u)). subst
          (λ (z : ℕ × Known). Seat log workers k after x z.0 z.1)
          (λ i. (sym q.0 i, q.1 i)) left_fits)
          (λ (q : (j ≢ id) × (get_elem? s.views j ≡ some u)). other_fits j u q.0 q.1)
          (at_set s.views id j (rest_view taken v) u t.0))
          (λ (t : (j ≡ length (set s.views id (rest_view taken v))) × (part_view taken v ≡ u)).
          let same : j ≡ length s.views = t.0 ∙ length-set s.views id (rest_view taken v) in
          subst (λ (z : ℕ × Known). Seat log workers k after x z.0 z.1)
          (λ i. (sym same i, t.1 i)) right_fits)
          (snoc (set s.views id (rest_view taken v)) (part_view taken v) u j e);
      workers_held = worker_held;
      snapshot_held = held_by_flag taken.snapshot r.holders.snapshot (λ u. u.snapshot) (λ t. t)
          (λ t h. ap (λ (b : Bool). cond b false v.snapshot) t ∙ h) r.snapshot_held;
      scheduler_held = held_by_flag taken.scheduler r.holders.scheduler (λ u. u.scheduler) (λ t. t)
          (λ t h. ap (λ (b : Bool). cond b false v.scheduler) t ∙ h) r.scheduler_held;
    }

  pub splits_seat : (id : ℕ) (v : Known) (taken : Taken) → HoldsTaken taken v
      → Splits (Rule log workers k) id v (rest_view taken v) (part_view taken v)
  splits_seat id v taken is s r at = split_kept id v taken is s r at

  -- ---- joins

  -- a worker's first number is the least that it owns
  pub own_least : (i n : ℕ) → IsWorker workers i → 1 ≤ n → owner_of workers n ≡ i → i ≤ n
  own_least i n is positive own = elim (dec_le i n) [
    | yes le ↦ le
    | no gt ↦ let g = lt_of_not-le gt in let e = k.owners.own n positive (omega (arith, is.1)) in
        omega arith
  ]

  pub spent_fits : (h : Holders) (x : BoardWords) (seat : ℕ)
      → ((i : ℕ) → IsWorker workers i → (1 ≤ x.progress i) × (owner_of workers (x.progress i) ≡ i))
      → Seat log workers k h x seat (spent_view log workers)
  spent_fits h x seat progress = record {
    same_log = refl;
    same_workers = refl;
    roles = λ i e. absurd (true≢false (sym e));
    installed = λ w e. absurd (true≢false (sym e));
    all_installed = λ w is e. absurd (true≢false (sym e));
    once = distinct-none;
    count = length-range 1 workers;
    floors = λ i is. let at_i : number_of (numbers_from 1 workers) i ≡ i =
        (let e = range-at 1 workers (i - 1) (omega (arith, is.0, is.1)) in omega (arith, is.0)) in
        let p = progress i is in
        let least = own_least i (x.progress i) is p.0 p.1 in record {
          positive = omega (arith, is.0);
          owned = ap (owner_of workers) at_i ∙ k.owners.own i is.0 is.1;
          reached = omega arith;
        };
    own_floors = λ i e. absurd (true≢false (sym e));
    place = omega arith;
    scheduled = omega arith;
    end = let e = k.places.none in omega arith;
    snapshot = λ e. absurd (true≢false (sym e));
    scheduler = λ e. absurd (true≢false (sym e));
    looks = All-nil (IsLookOf (names_in log.txns) (numbers_from 1 workers) 0 0);
    found = All-nil (IsFoundInstalled log workers x);
  }

  module _ (id : ℕ) (v : Known) (other : ℕ) (w : Known) (s : St log workers k)
      (r : Rule log workers k s) (at : get_elem? s.views id ≡ some v) (apart : other ≢ id)
      (at_w : get_elem? s.views other ≡ some w) where
    abbrev y : BoardWords
    y = words_in log workers k s

    abbrev joint : Holders
    joint = record {
      worker = λ i. cond (is_among i w.roles) id (r.holders.worker i);
      snapshot = cond w.snapshot id r.holders.snapshot;
      scheduler = cond w.scheduler id r.holders.scheduler;
      written = r.holders.written;
      indexed = r.holders.indexed;
    }

    floors_v : (i : ℕ) → number_of v.floors i ≤ number_of (greater_of_each v.floors w.floors) i
    floors_v i = let e = greater-of v.floors w.floors i
        ((r.each id v at).count ∙ sym (r.each other w at_w).count) in omega arith

    floors_w : (i : ℕ) → number_of w.floors i ≤ number_of (greater_of_each v.floors w.floors) i
    floors_w i = let e = greater-of v.floors w.floors i
        ((r.each id v at).count ∙ sym (r.each other w at_w).count) in omega arith

    ends : end_of log.txns (max v.place w.place) ≤ max v.scheduled w.scheduled
    ends = let a = (r.each id v at).end in let b = (r.each other w at_w).end in
        elim (dec_le v.place w.place) [
          | yes le ↦ (let e : max v.place w.place ≡ w.place = omega arith in
              let c = ap (end_of log.txns) e in omega arith)
          | no gt ↦ (let g = lt_of_not-le gt in
              let e : max v.place w.place ≡ v.place = omega arith in
              let c = ap (end_of log.txns) e in omega arith)
        ]

    both_sees : (a b : Bool) → v.snapshot ≡ a → w.snapshot ≡ b → (a || b) ≡ true
        → (cond b id r.holders.snapshot ≡ id) × (max v.place w.place ≡ y.visible)
        × ((i : ℕ) → IsWorker workers i
        → end_of log.txns y.visible < number_of (greater_of_each v.floors w.floors) i)
    both_sees a true e_v e_w h = let g = (r.each other w at_w).snapshot e_w in
        let place = g.place in let p = (r.each id v at).place in (
          refl,
          omega arith,
          (λ i is. let b = g.below i is in let c = ap (end_of log.txns) g.place in
              let d = floors_w i in omega arith),
        )
    both_sees true false e_v e_w h = let f = (r.each id v at).snapshot e_v in let place = f.place in
        let p = (r.each other w at_w).place in (
          f.holder,
          omega arith,
          (λ i is. let b = f.below i is in let c = ap (end_of log.txns) f.place in
              let d = floors_v i in omega arith),
        )
    both_sees false false e_v e_w h = absurd (true≢false (sym h))

    both_schedules : (a b : Bool) → v.scheduler ≡ a → w.scheduler ≡ b → (a || b) ≡ true
        → (cond b id r.holders.scheduler ≡ id) × (max v.scheduled w.scheduled ≡ y.scheduled)
        × (cond a v.written w.written ≡ r.holders.written)
        × (cond a v.indexed w.indexed ≡ r.holders.indexed)
    both_schedules true b e_v e_w h = let f = (r.each id v at).scheduler e_v in
        let e = f.scheduled in let p = (r.each other w at_w).scheduled in (
          flagged b id r.holders.scheduler id (λ _. refl) (λ _. f.holder),
          omega arith,
          f.written,
          f.indexed,
        )
    both_schedules false true e_v e_w h = let g = (r.each other w at_w).scheduler e_w in
        let e = g.scheduled in let p = (r.each id v at).scheduled in
        (refl, omega arith, g.written, g.indexed)
    both_schedules false false e_v e_w h = absurd (true≢false (sym h))

    worker_joined : (i : ℕ) → is_among i (v.roles ++ w.roles) ≡ true
        → cond (is_among i w.roles) id (r.holders.worker i) ≡ id
    worker_joined i h = flagged (is_among i w.roles) id (r.holders.worker i) id (λ _. refl)
        (λ not_w. ⊎_elim (λ (of_v : is_among i v.roles ≡ true). ((r.each id v at).roles i of_v).1)
        (λ (of_w : is_among i w.roles ≡ true). absurd
        (not_both (is_among i w.roles) of_w not_w)) (has_part i v.roles w.roles h))

    both_fits : Seat log workers k joint y id (joined_view v w)
    both_fits = let f = r.each id v at in let g = r.each other w at_w in
        let same_count = f.count ∙ sym g.count in record {
          same_log = f.same_log;
          same_workers = f.same_workers;
          roles = λ i h. (
            ⊎_elim (λ (of_v : is_among i v.roles ≡ true). (f.roles i of_v).0)
                (λ (of_w : is_among i w.roles ≡ true). (g.roles i of_w).0)
                (has_part i v.roles w.roles h),
            worker_joined i h,
          );
          installed = λ q h. ⊎_elim
              (λ (of_v : is_among q v.installed ≡ true). let p = f.installed q of_v in
              (p.0, has_front (owner_of workers q) v.roles w.roles p.1))
              (λ (of_w : is_among q w.installed ≡ true). let p = g.installed q of_w in
              (p.0, has_back (owner_of workers q) v.roles w.roles p.1))
              (has_part q v.installed w.installed h);
          all_installed = λ q is own. ⊎_elim
              (λ (of_v : is_among (owner_of workers q) v.roles
              ≡ true). has_front q v.installed w.installed (f.all_installed q is of_v))
              (λ (of_w : is_among (owner_of workers q) w.roles
              ≡ true). has_back q v.installed w.installed (g.all_installed q is of_w))
              (has_part (owner_of workers q) v.roles w.roles own);
          once = distinct-append v.installed w.installed f.once g.once
              (λ q of_v of_w. apart
              (sym (g.roles (owner_of workers q) (g.installed q of_w).1).1 ∙
              (f.roles (owner_of workers q) (f.installed q of_v).1).1));
          count = greater-length v.floors w.floors same_count ∙ f.count;
          floors = λ i is. let a = f.floors i is in let b = g.floors i is in
              let e = greater-of v.floors w.floors i same_count in
              let a_positive = a.positive in let a_reached = a.reached in
              let b_reached = b.reached in
              record {
                positive = omega arith;
                owned = elim (dec_le (number_of v.floors i) (number_of w.floors i)) [
                  | yes le ↦ (let same : number_of (greater_of_each v.floors w.floors) i
                      ≡ number_of w.floors i = omega arith in ap (owner_of workers) same ∙ b.owned)
                  | no gt ↦ (let lt = lt_of_not-le gt in
                      let same : number_of (greater_of_each v.floors w.floors) i
                      ≡ number_of v.floors i = omega arith in ap (owner_of workers) same ∙ a.owned)
                ];
                reached = omega arith;
              };
          own_floors = λ i h. let e = greater-of v.floors w.floors i same_count in ⊎_elim
              (λ (of_v : is_among i v.roles ≡ true). let a = f.own_floors i of_v in
              let b = (g.floors i (f.roles i of_v).0).reached in omega arith)
              (λ (of_w : is_among i w.roles ≡ true). let a = g.own_floors i of_w in
              let b = (f.floors i (g.roles i of_w).0).reached in omega arith)
              (has_part i v.roles w.roles h);
          place = let a = f.place in let b = g.place in omega arith;
          scheduled = let a = f.scheduled in let b = g.scheduled in omega arith;
          end = ends;
          snapshot = λ h. let p = both_sees v.snapshot w.snapshot refl refl h in record {
            holder = p.0;
            place = p.1;
            below = λ i is. let a = p.2 i is in let b = ap (end_of log.txns) p.1 in omega arith;
          };
          scheduler = λ h. let p = both_schedules v.scheduler w.scheduler refl refl h in
              record { holder = p.0; scheduled = p.1; written = p.2; indexed = p.3 };
          looks = All-append
              (IsLookOf (names_in log.txns) (greater_of_each v.floors w.floors)
              (max v.place w.place) (max v.scheduled w.scheduled)) v.looks w.looks
              (All-weaker (IsLookOf (names_in log.txns) v.floors v.place v.scheduled)
              (IsLookOf (names_in log.txns) (greater_of_each v.floors w.floors)
              (max v.place w.place) (max v.scheduled w.scheduled))
              (look_more (names_in log.txns) v.floors (greater_of_each v.floors w.floors) v.place
              (max v.place w.place) v.scheduled (max v.scheduled w.scheduled) floors_v (omega arith)
              (omega arith)) v.looks f.looks)
              (All-weaker (IsLookOf (names_in log.txns) w.floors w.place w.scheduled)
              (IsLookOf (names_in log.txns) (greater_of_each v.floors w.floors)
              (max v.place w.place) (max v.scheduled w.scheduled))
              (look_more (names_in log.txns) w.floors (greater_of_each v.floors w.floors) w.place
              (max v.place w.place) w.scheduled (max v.scheduled w.scheduled) floors_w (omega arith)
              (omega arith)) w.looks g.looks);
          found = All-append (IsFoundInstalled log workers y) v.looks w.looks f.found g.found;
        }

    third_fits : (j : ℕ) (u : Known) → j ≢ id → j ≢ other → get_elem? s.views j ≡ some u
        → Seat log workers k joint y j u
    third_fits j u not_id not_other at_j = let g = r.each other w at_w in let z = r.each j u at_j in
        part_fits r.holders joint y j j u u.roles u.installed u.snapshot u.scheduler u.written
        u.indexed u.looks refl refl
        (record {
          held = λ i has_i. (
            has_i,
            flagged (is_among i w.roles) id (r.holders.worker i) j
                (λ of_w. absurd (not_other (sym (z.roles i has_i).1 ∙ (g.roles i of_w).1)))
                (λ _. (z.roles i has_i).1),
          );
          numbers = λ q has_q. (has_q, (z.installed q has_q).1);
          all_numbers = λ q has_q own. has_q;
          once = z.once;
          sees = λ h. (
            h,
            flagged w.snapshot id r.holders.snapshot j
                (λ of_w. absurd (not_other (sym (z.snapshot h).holder ∙ (g.snapshot of_w).holder)))
                (λ _. (z.snapshot h).holder),
          );
          schedules =
              λ h. (
                h,
                flagged w.scheduler id r.holders.scheduler j
                    (λ of_w. absurd
                    (not_other (sym (z.scheduler h).holder ∙ (g.scheduler of_w).holder)))
                    (λ _. (z.scheduler h).holder),
                refl,
                refl,
              );
        })
        z.looks z.found z

    abbrev views_after : List Known
    views_after = set (set s.views id (joined_view v w)) other (spent_view log workers)

    at_both : get_elem? (set (set s.views id (joined_view v w)) other (spent_view log workers)) id
        ≡ some (joined_view v w)
    at_both = set_else (set s.views id (joined_view v w)) other id (spent_view log workers)
        (λ e. apart (sym e)) ∙ there s.views id v (joined_view v w) at

    -- a role is with the joined seat if either part had it
    role_joined : (b : Bool) (old : ℕ) (role : Known → Bool) → role w ≡ b
        → (role v ≡ true → role (joined_view v w) ≡ true)
        → (role w ≡ true → role (joined_view v w) ≡ true)
        → (u : Known) × (get_elem? s.views old ≡ some u) × (role u ≡ true)
        → (u : Known)
        × (get_elem? (set (set s.views id (joined_view v w)) other (spent_view log workers))
        (cond b id old) ≡ some u) × (role u ≡ true)
    role_joined true old role e of_v of_w h = (joined_view v w, at_both, of_w e)
    role_joined false old role e of_v of_w h = dite (ℕ_discrete old id)
        (λ same. (
          joined_view v w,
          subst (λ (j : ℕ). get_elem?
              (set (set s.views id (joined_view v w)) other (spent_view log workers)) j
              ≡ some (joined_view v w)) (sym same) at_both,
          of_v (ap role
              (one_view s.views id v h.0 at
              (subst (λ (j : ℕ). get_elem? s.views j ≡ some h.0) same h.1)) ∙ h.2),
        ))
        (λ not_id. let not_other : old ≢ other = λ same. not_both (role w)
        (ap role (one_view s.views other w h.0 at_w
        (subst (λ (j : ℕ). get_elem? s.views j ≡ some h.0) same h.1)) ∙ h.2) e in (
          h.0,
          set_else (set s.views id (joined_view v w)) other old
              (spent_view log workers) not_other ∙
              (set_else s.views id old (joined_view v w) not_id ∙ h.1),
          h.2,
        ))

    pub join_kept : Rule log workers k
        (record {
          words = s.words;
          homes = s.homes;
          views = set (set s.views id (joined_view v w)) other (spent_view log workers);
        })
    join_kept = record {
      holders = joint;
      count = r.count;
      words = r.words;
      each = λ j u e. ⊎_elim
          (λ (t : (j ≡ other) × (spent_view log workers ≡ u)). subst
          (λ (z : ℕ × Known). Seat log workers k joint y z.0 z.1) (λ i. (sym t.0 i, t.1 i))
          (spent_fits joint y other
          (λ i is. let p = r.words.progress i is in (p.positive, p.owned))))
          (λ (t : (j ≢ other) × (get_elem? (set s.views id (joined_view v w)) j ≡ some u)). ⊎_elim
          (λ (q : (j ≡ id) × (joined_view v w ≡ u)). subst
          (λ (z : ℕ × Known). Seat log workers k joint y z.0 z.1)
          (λ i. (sym q.0 i, q.1 i)) both_fits)
          (λ (q : (j ≢ id) × (get_elem? s.views j ≡ some u)). third_fits j u q.0 t.0 q.1)
          (at_set s.views id j (joined_view v w) u t.1))
          (at_set (set s.views id (joined_view v w)) other j (spent_view log workers) u e);
      workers_held = λ i is. role_joined (is_among i w.roles) (r.holders.worker i)
          (λ u. is_among i u.roles) refl (λ h. has_front i v.roles w.roles h)
          (λ h. has_back i v.roles w.roles h) (r.workers_held i is);
      snapshot_held = role_joined w.snapshot r.holders.snapshot (λ u. u.snapshot) refl
          (λ h. or_left v.snapshot w.snapshot h)
          (λ h. or_right v.snapshot w.snapshot h) r.snapshot_held;
      scheduler_held = role_joined w.scheduler r.holders.scheduler (λ u. u.scheduler) refl
          (λ h. or_left v.scheduler w.scheduler h)
          (λ h. or_right v.scheduler w.scheduler h) r.scheduler_held;
    }

  pub joins_seats : (id : ℕ) (v : Known) (other : ℕ) (w : Known)
      → Joins (Rule log workers k) id v other w (joined_view v w) (spent_view log workers)
  joins_seats id v other w s r at apart there_w =
      join_kept id v other w s r at apart
      (sym (set_else s.views id other (joined_view v w) apart) ∙ there_w)
