-- A new table, a split and a join keep the rule; the passes of a new slot.
use Rattle.std.proofs.Common.{◌≡◌, ◌≢◌, ℕ, zero, suc, ◌+◌, ◌<◌, ◌≤◌, ◌⊎◌, inl, inr, ⊎_elim, true}
use Rattle.std.proofs.Common.{false, cond, true≢false, List, [], ◌∷◌, ◌++◌, length, take, drop}
use Rattle.std.proofs.Common.{get_or, set, refl, sym, ap, subst, ◌∙◌, arith, Option, Some}
use Rattle.std.proofs.Common.{take-append-drop}
use Rattle.std.specs.Prelude.{All}
use Rattle.std.proofs.lemmas.List.Elements.{All-nil, All-cons, All-head, All-tail, All-weaker}
use mathlib.Core.Logic.{dite}
use mathlib.Core.Option.{some, none, some-injective, some-ne-none}
use native.Mathlib.Decide.{ℕ_discrete}
use lib.ListN.{get_elem?}
use Rattle.atomic_table.specs.Table.{State, Me, step, opening, keeps, Allows, Splits, Joins}
use Rattle.atomic_table.proofs.Lists.{at_set, set_else, at_longer, at_last}
use Rattle.turn_slot.specs.declared.known.Known.{Known}
use Rattle.turn_slot.specs.declared.known.Origin.{Origin}
use Rattle.turn_slot.specs.declared.known.Part.{Part}
use Rattle.turn_slot.specs.declared.known.TurnStage.{TurnStage}
use Rattle.turn_slot.specs.declared.known.TurnStage.TheVariants.{Without}
use Rattle.turn_slot.specs.Entries.{IsPassNumber, entries_of, AreOthers, IsSeenOf, longer}
use Rattle.c5_rows.specs.Numbers.{is_among, numbers_from}
use Rattle.turn_slot.specs.Views.{has_turn, new_view, first_view, spent_view, others_view}
use Rattle.turn_slot.specs.Views.{single_view, joined_view, saw_view, part_of, IsPartOf, Fits}
use Rattle.turn_slot.specs.Views.{IsSlotKept, settled}
use Rattle.turn_slot.proofs.Histories.{not_both, not_true, either_bool, one_number, has_front}
use Rattle.turn_slot.proofs.Histories.{has_back, has_part, has_range, range_has, seen_fewer}
use Rattle.turn_slot.proofs.Histories.{seen_whole, seen_longer, seen_own}
use Rattle.turn_slot.proofs.Steps.{there, one_view, no_parts, moved}

-- what is in a longer list was in the list, or is the new element at its end
snoc : {A : Type 0} (l : List A) (a b : A) (j : ℕ) → get_elem? (l ++ a ∷ []) j ≡ some b
    → (get_elem? l j ≡ some b) ⊎ ((j ≡ length l) × (a ≡ b))
snoc [] a b zero e = inr (refl, some-injective a b e)
snoc [] a b (suc j) e = absurd (some-ne-none b (sym e))
snoc (x ∷ xs) a b zero e = inl e
snoc (x ∷ xs) a b (suc j) e = ⊎_elim (λ t. inl t)
    (λ (t : (j ≡ length xs) × (a ≡ b)). inr (ap suc t.0, t.1)) (snoc xs a b j e)

module _ {V B E : Type 0} (base : V → B) (history : V → List E) (caller : E → ℕ)
    (origin : Origin B) where
  abbrev K : Type 0
  K = Known B E

  abbrev St : Type 0
  St = State (Option V) K

  abbrev M : Type 0
  M = Me (Option V) K

  abbrev Rule : St → Type 0
  Rule = IsSlotKept base history caller origin

  -- ---- the parts of a pass

  both_parts : (log : List E) (v w : K) → IsSeenOf caller log v.numbers v.seen
      → IsSeenOf caller log w.numbers w.seen
      → All (IsPartOf caller log (v.numbers ++ w.numbers)) (part_of v ∷ part_of w ∷ [])
  both_parts log v w a b =
      let P : Part E → Type 0 = IsPartOf caller log (v.numbers ++ w.numbers) in
      All-cons P (part_of v) (part_of w ∷ []) ((λ n is. has_front n v.numbers w.numbers is), a)
      (All-cons P (part_of w) [] ((λ n is. has_back n v.numbers w.numbers is), b) (All-nil P))

  -- a pass that has seen the entries of its numbers has seen those of its part
  seen_part : (log : List E) (numbers : List ℕ) (seen : List E) (p : Part E)
      → IsSeenOf caller log numbers seen → IsPartOf caller log numbers p
      → entries_of caller p.numbers seen ≡ entries_of caller p.numbers p.seen
  seen_part log numbers seen p s is =
      sym (seen_own caller log p.numbers seen (seen_fewer caller log numbers p.numbers seen is.0 s))
      ∙ seen_own caller log p.numbers p.seen is.1

  -- ---- a new table

  pub opens : (x : V) → base x ≡ origin.base → history x ≡ []
      → Rule (opening (0 ∷ 0 ∷ []) (Some x ∷ []) (first_view origin))
  opens x same_base empty = record {
    log = [];
    holder = 0;
    stage = Without;
    who = 0;
    owner = λ _. 0;
    words = refl;
    place = (x, refl, same_base, empty);
    free = λ _. refl;
    held = λ busy. absurd (busy refl);
    each = at_start;
    owned = λ n is. (
      first_view origin,
      refl,
      range_has n 1 origin.passes is.0 (let h = is.1 in omega arith),
    );
    callers = All-nil (λ e. IsPassNumber origin.passes (caller e));
  }
    where
      first_fits : Fits caller origin [] 0 Without 0 (λ _. 0) 0 (first_view origin)
      first_fits = record {
        same_origin = λ o is. cc (is);
        numbers = λ n is. let h = has_range n 1 origin.passes is in ((h.0, omega arith), refl);
        seen = seen_whole caller [] (numbers_from 1 origin.passes);
        looks = All-nil (λ n. n ≤ origin.passes);
        turn = λ e. absurd (true≢false (sym e));
        seen_all = λ e. absurd (cc);
        parts = no_parts base history caller origin [] (numbers_from 1 origin.passes);
      }

      at_start : (seat : ℕ) (v : K) → get_elem? (first_view origin ∷ []) seat ≡ some v
          → Fits caller origin [] 0 Without 0 (λ _. 0) seat v
      at_start zero v e = subst (λ (z : K). Fits caller origin [] 0 Without 0 (λ _. 0) 0 z)
          (some-injective (first_view origin) v e) first_fits
      at_start (suc seat) v e = absurd (some-ne-none v (sym e))

  pub opens_with : (x : V) (slots : List (Option V)) → slots ≡ Some x ∷ [] → base x ≡ origin.base
      → history x ≡ [] → Rule (opening (0 ∷ 0 ∷ []) slots (first_view origin))
  opens_with x slots is same_base empty =
      subst (λ (l : List (Option V)). Rule (opening (0 ∷ 0 ∷ []) l (first_view origin))) (sym is)
      (opens x same_base empty)

  -- ---- a split and a join

  -- the owner of each number if those of one seat go to another
  abbrev passed_on : List ℕ → ℕ → (ℕ → ℕ) → ℕ → ℕ
  passed_on numbers seat owner n = cond (is_among n numbers) seat (owner n)

  passed : (numbers : List ℕ) (seat : ℕ) (owner : ℕ → ℕ) (n : ℕ) → is_among n numbers ≡ true
      → passed_on numbers seat owner n ≡ seat
  passed numbers seat owner n is = rw is

  not_passed : (numbers : List ℕ) (seat : ℕ) (owner : ℕ → ℕ) (n : ℕ) → is_among n numbers ≡ false
      → passed_on numbers seat owner n ≡ owner n
  not_passed numbers seat owner n isnt = rw isnt

  -- a seat fits under another owner of each number, if its own numbers stay with it
  reowned : (log : List E) (holder : ℕ) (stage : TurnStage) (who : ℕ) (owner owner' : ℕ → ℕ) (k : ℕ)
      (u : K) → ((n : ℕ) → is_among n u.numbers ≡ true → owner n ≡ k → owner' n ≡ k)
      → Fits caller origin log holder stage who owner k u
      → Fits caller origin log holder stage who owner' k u
  reowned log holder stage who owner owner' k u stay f = record {
    same_origin = f.same_origin;
    numbers = λ n is. let g = f.numbers n is in (g.0, stay n is g.1);
    seen = f.seen;
    looks = f.looks;
    turn = f.turn;
    seen_all = f.seen_all;
    parts = f.parts;
  }

  pub splits : (id : ℕ) (v : K) (n : ℕ) → v.stage ≡ Without → v.numbers ≡ n ∷ drop 1 v.numbers
      → is_among n (drop 1 v.numbers) ≡ false → Splits Rule id v (others_view v) (single_view v)
  splits id v n idle mine once s r at =
      let f = r.each id v at in
      let idle' : has_turn v.stage ≡ false = ap has_turn idle in
      let left : K = others_view v in
      let right : K = single_view v in
      let new : ℕ = length (set s.views id left) in
      let one : take 1 v.numbers ≡ n ∷ [] = ap (take 1) mine in
      let owner' : ℕ → ℕ = passed_on (take 1 v.numbers) new r.owner in
      let sub_one : (m : ℕ) → is_among m (take 1 v.numbers) ≡ true
      → is_among m v.numbers ≡ true =
      λ m is. subst (λ (l : List ℕ). is_among m l ≡ true) (take-append-drop 1 v.numbers)
      (has_front m (take 1 v.numbers) (drop 1 v.numbers) is) in
      let sub_rest : (m : ℕ) → is_among m (drop 1 v.numbers) ≡ true
      → is_among m v.numbers ≡ true =
      λ m is. subst (λ (l : List ℕ). is_among m l ≡ true) (take-append-drop 1 v.numbers)
      (has_back m (take 1 v.numbers) (drop 1 v.numbers) is) in
      let is_n : (m : ℕ) → is_among m (take 1 v.numbers) ≡ true
      → m ≡ n = λ m is. one_number m n (subst (λ (l : List ℕ). is_among m l ≡ true) one is) in
      let apart_rest : (m : ℕ) → is_among m (drop 1 v.numbers) ≡ true
      → is_among m (take 1 v.numbers) ≡ false =
      λ m is. not_true (is_among m (take 1 v.numbers))
      (λ h. not_both (is_among n (drop 1 v.numbers))
      (subst (λ (k : ℕ). is_among k (drop 1 v.numbers) ≡ true) (is_n m h) is) once) in
      let left_fits : Fits caller origin r.log r.holder r.stage r.who owner' id left = record {
        same_origin = f.same_origin;
        numbers = λ m is. let g = f.numbers m (sub_rest m is) in
            (g.0, not_passed (take 1 v.numbers) new r.owner m (apart_rest m is) ∙ g.1);
        seen = seen_fewer caller r.log v.numbers (drop 1 v.numbers) v.seen sub_rest f.seen;
        looks = f.looks;
        turn = λ is_among. absurd (not_both (has_turn v.stage) is_among idle');
        seen_all = λ out. absurd (not_both (has_turn v.stage) (ap has_turn out) idle');
        parts = no_parts base history caller origin r.log (drop 1 v.numbers);
      } in
      let right_fits : Fits caller origin r.log r.holder r.stage r.who owner' new right = record {
        same_origin = f.same_origin;
        numbers = λ m is. let g = f.numbers m (sub_one m is) in
            (g.0, passed (take 1 v.numbers) new r.owner m is);
        seen = seen_fewer caller r.log v.numbers (take 1 v.numbers) v.seen sub_one f.seen;
        looks = All-nil (λ k. k ≤ origin.passes);
        turn = λ e. absurd (true≢false (sym e));
        seen_all = λ e. absurd (cc);
        parts = no_parts base history caller origin r.log (take 1 v.numbers);
      } in
      let vs : List K = set s.views id left in
      let old : (k : ℕ) (u : K) → get_elem? vs k ≡ some u
      → Fits caller origin r.log r.holder r.stage r.who owner' k u = λ k u e. ⊎_elim
      (λ (t : (k ≡ id) × (left ≡ u)). subst
      (λ (z : ℕ × K). Fits caller origin r.log r.holder r.stage r.who owner' z.0 z.1)
      (λ i. (sym t.0 i, t.1 i)) left_fits)
      (λ (t : (k ≢ id) × (get_elem? s.views k ≡ some u)). reowned r.log r.holder r.stage r.who
      r.owner owner' k u
      (λ m is own. not_passed (take 1 v.numbers) new r.owner m
      (not_true (is_among m (take 1 v.numbers))
      (λ h. t.0 (sym own ∙ (f.numbers m (sub_one m h)).1))) ∙ own)
      (r.each k u t.1))
      (at_set s.views id k left u e) in
      record {
        log = r.log;
        holder = r.holder;
        stage = r.stage;
        who = r.who;
        owner = owner';
        words = r.words;
        place = r.place;
        free = r.free;
        held = λ busy. let h = r.held busy in
            let apart : r.who ≢ id =
            λ e. not_both (has_turn v.stage)
            (subst (λ (z : K). has_turn z.stage ≡ true)
            (one_view s.views id h.0 v
            (subst (λ (k : ℕ). get_elem? s.views k ≡ some h.0) e h.1) at) h.2) idle' in (
              h.0,
              at_longer vs (right ∷ []) r.who h.0 (set_else s.views id r.who left apart ∙ h.1),
              h.2,
            );
        each = λ k u e. ⊎_elim (old k u)
            (λ (t : (k ≡ new) × (right ≡ u)). subst
            (λ (z : ℕ × K). Fits caller origin r.log r.holder r.stage r.who owner' z.0 z.1)
            (λ i. (sym t.0 i, t.1 i)) right_fits)
            (snoc vs right u k e);
        owned = λ m is. let h = r.owned m is in ⊎_elim
            (λ (own : is_among m (take 1 v.numbers) ≡ true). (
              right,
              subst (λ (k : ℕ). get_elem? (vs ++ right ∷ []) k ≡ some right)
                  (sym (passed (take 1 v.numbers) new r.owner m own)) (at_last vs right new refl),
              own,
            ))
            (λ (other : is_among m (take 1 v.numbers) ≡ false). let same : owner' m
            ≡ r.owner m = not_passed (take 1 v.numbers) new r.owner m other in
            dite (ℕ_discrete (r.owner m) id)
            (λ e. let v_is : h.0
            ≡ v = one_view s.views id h.0 v
            (subst (λ (k : ℕ). get_elem? s.views k ≡ some h.0) e h.1) at in
            let of_v : is_among m (take 1 v.numbers ++ drop 1 v.numbers) ≡ true =
            subst (λ (l : List ℕ). is_among m l ≡ true)
            (ap (λ (z : K). z.numbers) v_is ∙ sym (take-append-drop 1 v.numbers)) h.2 in (
              left,
              subst (λ (k : ℕ). get_elem? (vs ++ right ∷ []) k ≡ some left) (sym (same ∙ e))
                  (at_longer vs (right ∷ []) id left (there s.views id v left at)),
              ⊎_elim (λ (h : is_among m (take 1 v.numbers) ≡ true). absurd
                  (not_both (is_among m (take 1 v.numbers)) h other)) (λ rest. rest)
                  (has_part m (take 1 v.numbers) (drop 1 v.numbers) of_v),
            ))
            (λ apart. (
              h.0,
              subst (λ (k : ℕ). get_elem? (vs ++ right ∷ []) k ≡ some h.0) (sym same)
                  (at_longer vs (right ∷ []) (r.owner m) h.0
                  (set_else s.views id (r.owner m) left apart ∙ h.1)),
              h.2,
            )))
            (either_bool (is_among m (take 1 v.numbers)));
        callers = r.callers;
      }

  -- what a joined seat knows fits
  spent_fits : (log : List E) (holder : ℕ) (stage : TurnStage) (who : ℕ) (owner : ℕ → ℕ) (k : ℕ)
      → Fits caller origin log holder stage who owner k spent_view
  spent_fits log holder stage who owner k = record {
    same_origin = λ o is. absurd (cc (is));
    numbers = λ n is. absurd (true≢false (sym is));
    seen = (log, refl, none_of log);
    looks = All-nil (λ n. n ≤ origin.passes);
    turn = λ e. absurd (true≢false (sym e));
    seen_all = λ e. absurd (cc);
    parts = no_parts base history caller origin log [];
  }
    where
      none_of : (es : List E) → AreOthers caller [] es
      none_of [] = All-nil (λ e. is_among (caller e) [] ≡ false)
      none_of (e ∷ es) = All-cons (λ e. is_among (caller e) [] ≡ false) e es refl (none_of es)

  pub joins : (id : ℕ) (v : K) (other : ℕ) (w : K) → v.stage ≡ Without → w.stage ≡ Without
      → Joins Rule id v other w (joined_view v w) spent_view
  joins id v other w idle idle_w s r at apart there_w =
      let both : K = joined_view v w in
      let vs : List K = set s.views id both in
      let at_w : get_elem? s.views other ≡ some w =
      sym (set_else s.views id other both apart) ∙ there_w in
      let f = r.each id v at in
      let g = r.each other w at_w in
      let idle_v : has_turn v.stage ≡ false = ap has_turn idle in
      let idle_w' : has_turn w.stage ≡ false = ap has_turn idle_w in
      let owner' : ℕ → ℕ = passed_on w.numbers id r.owner in
      let at_both : get_elem? (set vs other spent_view) id ≡ some both =
      set_else vs other id spent_view (λ e. apart (sym e)) ∙ there s.views id v both at in
      let both_fits : Fits caller origin r.log r.holder r.stage r.who owner' id both = record {
        same_origin = f.same_origin;
        numbers = λ m is. ⊎_elim
            (λ (mine : is_among m w.numbers ≡ true).
            ((g.numbers m mine).0, passed w.numbers id r.owner m mine))
            (λ (not_w : is_among m w.numbers ≡ false). ⊎_elim
            (λ (own : is_among m v.numbers ≡ true). let k = f.numbers m own in
            (k.0, not_passed w.numbers id r.owner m not_w ∙ k.1))
            (λ (h : is_among m w.numbers ≡ true). absurd (not_both (is_among m w.numbers) h not_w))
            (has_part m v.numbers w.numbers is))
            (either_bool (is_among m w.numbers));
        seen = seen_longer caller r.log v.numbers w.numbers v.seen w.seen f.seen g.seen;
        looks = f.looks;
        turn = λ is_among. absurd (not_both (has_turn v.stage) is_among idle_v);
        seen_all = λ out. absurd (not_both (has_turn v.stage) (ap has_turn out) idle_v);
        parts = both_parts r.log v w f.seen g.seen;
      } in
      let stays : (k : ℕ) (u : K) → has_turn u.stage ≡ true → get_elem? s.views k ≡ some u
      → get_elem? (set vs other spent_view) k ≡ some u = λ k u is_among e.
      let not_id : k ≢ id = λ z. not_both (has_turn v.stage)
      (subst (λ (y : K). has_turn y.stage ≡ true)
      (one_view s.views id u v (subst (λ (j : ℕ). get_elem? s.views j ≡ some u) z e) at)
      is_among) idle_v in
      let not_other : k ≢ other =
      λ z. not_both (has_turn w.stage)
      (subst (λ (y : K). has_turn y.stage ≡ true)
      (one_view s.views other u w (subst (λ (j : ℕ). get_elem? s.views j ≡ some u) z e) at_w)
      is_among) idle_w' in
      set_else vs other k spent_view not_other ∙ (set_else s.views id k both not_id ∙ e) in
      record {
        log = r.log;
        holder = r.holder;
        stage = r.stage;
        who = r.who;
        owner = owner';
        words = r.words;
        place = r.place;
        free = r.free;
        held = λ busy. let h = r.held busy in (h.0, stays r.who h.0 h.2 h.1, h.2);
        each = λ k u e. ⊎_elim
            (λ (t : (k ≡ other) × (spent_view ≡ u)). subst
            (λ (z : ℕ × K). Fits caller origin r.log r.holder r.stage r.who owner' z.0 z.1)
            (λ i. (sym t.0 i, t.1 i)) (spent_fits r.log r.holder r.stage r.who owner' other))
            (λ (t : (k ≢ other) × (get_elem? vs k ≡ some u)). ⊎_elim
            (λ (q : (k ≡ id) × (both ≡ u)). subst
            (λ (z : ℕ × K). Fits caller origin r.log r.holder r.stage r.who owner' z.0 z.1)
            (λ i. (sym q.0 i, q.1 i)) both_fits)
            (λ (q : (k ≢ id) × (get_elem? s.views k ≡ some u)). reowned r.log r.holder r.stage r.who
            r.owner owner' k u
            (λ m is own. not_passed w.numbers id r.owner m
            (not_true (is_among m w.numbers) (λ h. t.0 (sym own ∙ (g.numbers m h).1))) ∙ own)
            (r.each k u q.1))
            (at_set s.views id k both u t.1))
            (at_set vs other k spent_view u e);
        owned = λ m is. let h = r.owned m is in ⊎_elim
            (λ (mine : is_among m w.numbers ≡ true). (
              both,
              subst (λ (k : ℕ). get_elem? (set vs other spent_view) k ≡ some both)
                  (sym (passed w.numbers id r.owner m mine)) at_both,
              has_back m v.numbers w.numbers mine,
            ))
            (λ (not_w : is_among m w.numbers ≡ false). let same : owner' m
            ≡ r.owner m = not_passed w.numbers id r.owner m not_w in
            dite (ℕ_discrete (r.owner m) id)
            (λ e. let v_is : h.0
            ≡ v = one_view s.views id h.0 v
            (subst (λ (k : ℕ). get_elem? s.views k ≡ some h.0) e h.1) at in (
              both,
              subst (λ (k : ℕ). get_elem? (set vs other spent_view) k ≡ some both)
                  (sym (same ∙ e)) at_both,
              has_front m v.numbers w.numbers
                  (subst (λ (z : K). is_among m z.numbers ≡ true) v_is h.2),
            ))
            (λ not_id. let not_other : r.owner m ≢ other = λ z. not_both (is_among m w.numbers)
            (subst (λ (y : K). is_among m y.numbers ≡ true)
            (one_view s.views other h.0 w
            (subst (λ (j : ℕ). get_elem? s.views j ≡ some h.0) z h.1) at_w) h.2) not_w in (
              h.0,
              subst (λ (k : ℕ). get_elem? (set vs other spent_view) k ≡ some h.0) (sym same)
                  (set_else vs other (r.owner m) spent_view not_other ∙
                  (set_else s.views id (r.owner m) both not_id ∙ h.1)),
              h.2,
            )))
            (either_bool (is_among m w.numbers));
        callers = r.callers;
      }

  -- ---- the load after a join

  pub settles : (slots id : ℕ) (me : M) → me.0.stage ≡ Without
      → Allows Rule slots id me 1 (λ n. n) (settled caller (step slots 1 0 0 none) me)
  settles slots id me idle s r _ at _ =
      let v : K = me.0 in
      let f = r.each id v at in
      let idle' : has_turn v.stage ≡ false = ap has_turn idle in
      let w : K = saw_view v v.seen Without in (
        w,
        keeps,
        tt,
        moved base history caller origin s r id v w
            (set s.words 1 (get_or s.words 1 0)) s.homes r.log r.holder r.stage r.who at refl
            (ap (λ (ws : List ℕ). set ws 1 (get_or ws 1 0)) r.words) r.place r.free
            (λ busy. inr (busy, refl, idle')) r.callers
            (record {
              same_origin = f.same_origin;
              numbers = f.numbers;
              seen = f.seen;
              looks = f.looks;
              turn = λ e. absurd (true≢false (sym e));
              seen_all = λ e. absurd (cc);
              parts = no_parts base history caller origin r.log v.numbers;
            })
            (λ k u apart there. r.each k u there),
        (
          refl,
          All-weaker (IsPartOf caller r.log v.numbers)
              (λ p. entries_of caller p.numbers v.seen ≡ entries_of caller p.numbers p.seen)
              (λ p is. seen_part r.log v.numbers v.seen p f.seen is) v.parts f.parts,
        ),
      )

-- a joined pass has seen the own entries of both its parts
pub joined_own : {V B E : Type 0} (caller : E → ℕ) (v w : Known B E)
    (m m' : Me (Option V) (Known B E)) (c : List (ℕ × Option V))
    → m ≡ (joined_view v w, c) → m' ≡ (saw_view m.0 m.0.seen Without, m.1)
    → All (λ p. entries_of caller p.numbers m.0.seen
    ≡ entries_of caller p.numbers p.seen) m.0.parts
    → (entries_of caller v.numbers m'.0.seen ≡ entries_of caller v.numbers v.seen)
    × (entries_of caller w.numbers m'.0.seen ≡ entries_of caller w.numbers w.seen)
joined_own {V} {B} {E} caller v w m m' c is after own =
    let Has : List E → Part E → Type 0 = λ xs p. entries_of caller p.numbers xs
    ≡ entries_of caller p.numbers p.seen in
    let all : All (Has (longer v.seen w.seen)) (part_of v ∷ part_of w ∷ []) =
    subst (λ (z : Me (Option V) (Known B E)). All (Has z.0.seen) z.0.parts) is own in
    let seen : m'.0.seen ≡ longer v.seen w.seen =
    ap (λ (z : Me (Option V) (Known B E)). z.0.seen) after ∙ ap
    (λ (z : Me (Option V) (Known B E)). z.0.seen) is in (
      ap (entries_of caller v.numbers) seen ∙ All-head (Has (longer v.seen w.seen)) (part_of v)
          (part_of w ∷ []) all,
      ap (entries_of caller w.numbers) seen ∙ All-head (Has (longer v.seen w.seen)) (part_of w) []
          (All-tail (Has (longer v.seen w.seen)) (part_of v) (part_of w ∷ []) all),
    )

-- ---- the passes of a new slot, one by one

module _ {V B E : Type 0} (origin : Origin B) where
  pub left_first : (me : Me (Option V) (Known B E)) (n k : ℕ)
      → me ≡ (new_view origin (numbers_from n (suc k)), [])
      → (me.0.stage ≡ Without) × (me.0.numbers ≡ n ∷ drop 1 me.0.numbers)
      × (is_among n (drop 1 me.0.numbers) ≡ false)
  left_first me n k is =
      subst (λ (z : Me (Option V) (Known B E)). (z.0.stage ≡ Without)
      × (z.0.numbers ≡ n ∷ drop 1 z.0.numbers) × (is_among n (drop 1 z.0.numbers) ≡ false))
      (sym is) (
        refl,
        refl,
        not_true (is_among n (numbers_from (suc n) k))
            (λ h. let r = has_range n (suc n) k h in absurd (omega arith)),
      )

  pub left_after : (me me' : Me (Option V) (Known B E)) (n k count : ℕ) → n + k ≡ count → n < count
      → me ≡ (new_view origin (numbers_from n (suc k)), []) → me' ≡ (others_view me.0, me.1)
      → (j : ℕ) × (n + 1 + j ≡ count) × (me' ≡ (new_view origin (numbers_from (n + 1) (suc j)), []))
  left_after me me' n zero count sum below is now = absurd (omega arith)
  left_after me me' n (suc j) count sum below is now = (
    j,
    omega arith,
    now ∙ (ap (λ (z : Me (Option V) (Known B E)). (others_view z.0, z.1)) is ∙ ap
        (λ (m : ℕ). (new_view origin (numbers_from m (suc j)), [])) (omega arith)),
  )

  pub one_alone : (me one : Me (Option V) (Known B E)) (n k : ℕ)
      → me ≡ (new_view origin (numbers_from n (suc k)), []) → one ≡ (single_view me.0, [])
      → one ≡ (new_view origin (n ∷ []), [])
  one_alone me one n k is now =
      now ∙ ap (λ (z : Me (Option V) (Known B E)). (single_view z.0, [])) is

  pub last_alone : (me : Me (Option V) (Known B E)) (n k : ℕ)
      → me ≡ (new_view origin (numbers_from n (suc k)), []) → k ≡ 0
      → me ≡ (new_view origin (n ∷ []), [])
  last_alone me n k is none_left =
      is ∙ ap (λ (j : ℕ). (new_view origin (numbers_from n (suc j)), [])) none_left

  pub new_one : (me : Me (Option V) (Known B E)) (numbers : List ℕ)
      → me ≡ (new_view origin numbers, []) → (me.0.origin ≡ Some origin) × (me.0.seen ≡ [])
      × (me.0.looks ≡ []) × (me.0.numbers ≡ numbers)
  new_one me numbers is = subst
      (λ (z : Me (Option V) (Known B E)). (z.0.origin ≡ Some origin) × (z.0.seen ≡ [])
      × (z.0.looks ≡ []) × (z.0.numbers ≡ numbers)) (sym is) (refl, refl, refl, refl)
