-- Lists of views, and the steps of a turn: each keeps the rule.
use Rattle.std.proofs.Common.{◌≡◌, ◌≢◌, ℕ, zero, suc, ◌<◌, ◌≤◌, ◌==◌, ◌⊎◌, inl, inr, ⊎_elim, Bool}
use Rattle.std.proofs.Common.{true, false, true≢false, List, [], ◌∷◌, ◌++◌, length, drop, get_or}
use Rattle.std.proofs.Common.{set, refl, sym, ap, subst, ◌∙◌, arith, Option, Some, None, eq-eqb}
use Rattle.std.proofs.Common.{ne_eqb}
use Rattle.std.specs.Prelude.{All}
use Rattle.std.proofs.lemmas.List.Elements.{All-nil, All-append, All-push, All-weaker}
use mathlib.Core.Logic.{dite}
use mathlib.Core.List.{IsPrefix}
use mathlib.Core.Option.{some, none, some-injective, some-ne-none}
use mathlib.Core.Option as maybe
use native.Mathlib.Decide.{ℕ_discrete}
use lib.ListN.{get_elem?}
use prog.Atomic.{either}
use Rattle.atomic_table.specs.Table.{State, Me, step, takes, keeps, gives, homes_after, rest}
use Rattle.atomic_table.specs.Table.{stepped, Final, Seen, Allows}
use Rattle.atomic_table.proofs.Lists.{at_set, set_else}
use Rattle.turn_slot.specs.declared.known.Known.{Known}
use Rattle.turn_slot.specs.declared.known.Origin.{Origin}
use Rattle.turn_slot.specs.declared.known.TurnStage.{TurnStage}
use Rattle.turn_slot.specs.declared.known.TurnStage.TheVariants.{Without, Won, Out, Back}
use Rattle.turn_slot.specs.Entries.{count_of, IsPassNumber, entries_of, AreOf, AreOthers, IsSeenOf}
use Rattle.c5_rows.specs.Numbers.{is_among}
use Rattle.turn_slot.specs.Views.{has_turn, pass_number, looked_view, saw_view, IsPartOf, Fits}
use Rattle.turn_slot.specs.Views.{IsPlaced, IsSlotKept, tried, took, gave, ended}
use Rattle.turn_slot.proofs.Histories.{not_both, not_true, seen_whole, seen_more, seen_begins}
use Rattle.turn_slot.proofs.Histories.{seen_own, seen_all_own, others_fewer}

-- ---- views in a list

pub there : {A : Type 0} (l : List A) (i : ℕ) (v w : A) → get_elem? l i ≡ some v
    → get_elem? (set l i w) i ≡ some w
there [] i v w e = absurd (some-ne-none v (sym e))
there (x ∷ xs) zero v w e = refl
there (x ∷ xs) (suc i) v w e = there xs i v w e

inside : {A : Type 0} (l : List A) (j : ℕ) (b : A) → get_elem? l j ≡ some b → j < length l
inside [] j b e = absurd (some-ne-none b (sym e))
inside (x ∷ xs) zero b e = omega arith
inside (x ∷ xs) (suc j) b e = let r = inside xs j b e in omega arith

pub one_view : {A : Type 0} (l : List A) (j : ℕ) (v w : A) → get_elem? l j ≡ some v
    → get_elem? l j ≡ some w → v ≡ w
one_view l j v w e f = some-injective v w (sym e ∙ f)

-- a number that isn't 0 and comes first is among the numbers
first_has : (numbers : List ℕ) → pass_number numbers ≢ 0
    → is_among (pass_number numbers) numbers ≡ true
first_has [] some_number = absurd (some_number refl)
first_has (n ∷ ns) some_number = rw (eq-eqb n n refl)

pub has_first : (n : ℕ) (numbers : List ℕ) → numbers ≡ n ∷ drop 1 numbers
    → is_among n numbers ≡ true
has_first n [] is = absurd (cc)
has_first n (m ∷ ns) is = let e : n ≡ m = cc in rw (eq-eqb n m e)

module _ {V B E : Type 0} (base : V → B) (history : V → List E) (caller : E → ℕ)
    (origin : Origin B) where
  abbrev K : Type 0
  K = Known B E

  abbrev St : Type 0
  St = State (Option V) K

  abbrev M : Type 0
  M = Me (Option V) K

  abbrev Rule : St → Type 0
  Rule = IsSlotKept base history caller origin

  abbrev AllNumbers : List E → Type 0
  AllNumbers log = All (λ e. IsPassNumber origin.passes (caller e)) log

  abbrev has_in : K → ℕ → Bool
  has_in v n = is_among n v.numbers

  abbrev has_number : K → ℕ → Type 0
  has_number v n = has_in v n ≡ true

  abbrev not_number : K → ℕ → Type 0
  not_number v n = has_in v n ≡ false

  -- ---- the parts of a pass

  pub no_parts : (log : List E) (numbers : List ℕ) → All (IsPartOf caller log numbers) []
  no_parts log numbers = All-nil (IsPartOf caller log numbers)

  -- ---- one view and the words change

  pub moved : (s : St) (r : Rule s) (id : ℕ) (v w : K) (words : List ℕ)
      (homes : List (maybe.Option (Option V))) (log : List E) (holder : ℕ) (stage : TurnStage)
      (who : ℕ)
      → get_elem? s.views id ≡ some v → w.numbers ≡ v.numbers
      → words ≡ holder ∷ count_of (length log) ∷ []
      → IsPlaced base history stage homes origin.base log
      → (holder ≡ 0 → stage ≡ Without)
      → (holder ≢ 0 → ((who ≡ id) × (has_turn w.stage ≡ true))
      ⊎ ((r.holder ≢ 0) × (who ≡ r.who) × (has_turn v.stage ≡ false)))
      → All (λ e. IsPassNumber origin.passes (caller e)) log
      → Fits caller origin log holder stage who r.owner id w
      → ((k : ℕ) (u : K) → k ≢ id → get_elem? s.views k ≡ some u
      → Fits caller origin log holder stage who r.owner k u)
      → Rule (record { words = words; homes = homes; views = set s.views id w })
  moved s r id v w words homes log holder stage who at same_numbers now place free held callers mine
      others = record {
        log = log;
        holder = holder;
        stage = stage;
        who = who;
        owner = r.owner;
        words = now;
        place = place;
        free = free;
        held = λ busy. ⊎_elim
            (λ (t : (who ≡ id) × (has_turn w.stage ≡ true)). (
              w,
              subst (λ (k : ℕ). get_elem? (set s.views id w) k ≡ some w) (sym t.0)
                  (there s.views id v w at),
              t.1,
            ))
            (λ (t : (r.holder ≢ 0) × (who ≡ r.who) × (has_turn v.stage ≡ false)).
            let h = r.held t.0 in
            let apart : r.who ≢ id =
            λ e. not_both (has_turn v.stage)
            (subst (λ (z : K). has_turn z.stage ≡ true)
            (one_view s.views id h.0 v (subst (λ (k : ℕ). get_elem? s.views k ≡ some h.0) e h.1) at)
            h.2) t.2 in (
              h.0,
              subst (λ (k : ℕ). get_elem? (set s.views id w) k ≡ some h.0) (sym t.1)
                  (set_else s.views id r.who w apart ∙ h.1),
              h.2,
            ))
            (held busy);
        each = λ k u e. ⊎_elim
            (λ (t : (k ≡ id) × (w ≡ u)). subst
            (λ (z : ℕ × K). Fits caller origin log holder stage who r.owner z.0 z.1)
            (λ i. (sym t.0 i, t.1 i)) mine)
            (λ (t : (k ≢ id) × (get_elem? s.views k ≡ some u)). others k u t.0 t.1)
            (at_set s.views id k w u e);
        owned = λ n is. let h = r.owned n is in dite (ℕ_discrete (r.owner n) id)
            (λ e. (
              w,
              subst (λ (k : ℕ). get_elem? (set s.views id w) k ≡ some w) (sym e)
                  (there s.views id v w at),
              subst (λ (l : List ℕ). is_among n l ≡ true)
                  (ap (λ (z : K). z.numbers)
                  (one_view s.views id h.0 v
                  (subst (λ (k : ℕ). get_elem? s.views k ≡ some h.0) e h.1) at)
                  ∙ sym same_numbers) h.2,
            ))
            (λ apart. (h.0, set_else s.views id (r.owner n) w apart ∙ h.1, h.2));
        callers = callers;
      }

  -- ---- the other seats

  -- a seat without the turn fits whatever the turn does
  still : (log : List E) (holder holder' : ℕ) (stage stage' : TurnStage) (who who' : ℕ)
      (owner : ℕ → ℕ) (k : ℕ) (u : K) → has_turn u.stage ≡ false
      → Fits caller origin log holder stage who owner k u
      → Fits caller origin log holder' stage' who' owner k u
  still log holder holder' stage stage' who who' owner k u idle f = record {
    same_origin = f.same_origin;
    numbers = f.numbers;
    seen = f.seen;
    looks = f.looks;
    turn = λ is_among. absurd (not_both (has_turn u.stage) is_among idle);
    seen_all = λ out. absurd (not_both (has_turn u.stage) (ap has_turn out) idle);
    parts = f.parts;
  }

  -- and while the log grows by entries of others
  beyond : (log more : List E) (holder : ℕ) (stage : TurnStage) (who : ℕ) (owner : ℕ → ℕ) (k : ℕ)
      (u : K) → has_turn u.stage ≡ false → AreOthers caller u.numbers more
      → Fits caller origin log holder stage who owner k u
      → Fits caller origin (log ++ more) holder stage who owner k u
  beyond log more holder stage who owner k u idle foreign f = record {
    same_origin = f.same_origin;
    numbers = f.numbers;
    seen = seen_more caller log more u.numbers u.seen foreign f.seen;
    looks = f.looks;
    turn = λ is_among. absurd (not_both (has_turn u.stage) is_among idle);
    seen_all = λ out. absurd (not_both (has_turn u.stage) (ap has_turn out) idle);
    parts = All-weaker (IsPartOf caller log u.numbers) (IsPartOf caller (log ++ more) u.numbers)
        (λ p is. (
          is.0,
          seen_more caller log more p.numbers p.seen
              (others_fewer caller u.numbers p.numbers more is.0 foreign) is.1,
        )) u.parts f.parts;
  }

  -- if the holder word is 0, no seat has the turn
  idle_free : (s : St) (r : Rule s) (k : ℕ) (u : K) → r.holder ≡ 0 → get_elem? s.views k ≡ some u
      → has_turn u.stage ≡ false
  idle_free s r k u zero_word at =
      not_true (has_turn u.stage)
      (λ is_among. not_both (has_turn u.stage) is_among
      (ap has_turn (sym ((r.each k u at).turn is_among).1 ∙ r.free zero_word)))

  -- if a seat has the turn, no other has it
  idle_other : (s : St) (r : Rule s) (id : ℕ) (v : K) (k : ℕ) (u : K)
      → get_elem? s.views id ≡ some v → has_turn v.stage ≡ true → k ≢ id
      → get_elem? s.views k ≡ some u → has_turn u.stage ≡ false
  idle_other s r id v k u at turn apart there =
      not_true (has_turn u.stage)
      (λ is_among. apart
      (((r.each k u there).turn is_among).0 ∙ sym ((r.each id v at).turn turn).0))

  -- ---- the exchange of the holder word

  -- the number in the holder word is that of another seat
  held_by_other : (s : St) (r : Rule s) (id : ℕ) (v : K) → get_elem? s.views id ≡ some v
      → has_turn v.stage ≡ false → r.holder ≢ 0 → IsPassNumber origin.passes r.holder
      × (is_among r.holder v.numbers ≡ false)
  held_by_other s r id v at idle busy =
      let h = r.held busy in
      let f = r.each r.who h.0 h.1 in
      let t = f.turn h.2 in
      let among : is_among r.holder h.0.numbers ≡ true =
      subst (λ (n : ℕ). is_among n h.0.numbers ≡ true) t.2
      (first_has h.0.numbers (λ e. busy (sym t.2 ∙ e))) in
      let known = f.numbers r.holder among in (
        known.0,
        not_true (is_among r.holder v.numbers)
            (λ is. let same : r.who ≡ id = sym known.1 ∙ ((r.each id v at).numbers r.holder is).1 in
            not_both (has_turn v.stage)
            (subst (λ (z : K). has_turn z.stage ≡ true)
            (one_view s.views id h.0 v
            (subst (λ (k : ℕ). get_elem? s.views k ≡ some h.0) same h.1) at) h.2) idle),
      )

  pub tries : (slots id : ℕ) (me : M) (number : ℕ) → me.0.stage ≡ Without
      → me.0.numbers ≡ number ∷ drop 1 me.0.numbers
      → Allows Rule slots id me 0 (λ n. either (n == 0) number n)
      (tried (step slots 0 0 number none) me)
  tries slots id me number idle mine s r _ at _ =
      let v : K = me.0 in
      let n : ℕ = get_or s.words 0 0 in
      let n_is : n ≡ r.holder = ap (λ (l : List ℕ). get_or l 0 0) r.words in
      let f = r.each id v at in
      let idle' : has_turn v.stage ≡ false = ap has_turn idle in
      let ours = f.numbers number (has_first number v.numbers mine) in
      dite (ℕ_discrete n 0)
      (λ hit. let w : K = looked_view v 0 Won in let zero_word : r.holder ≡ 0 = sym n_is ∙ hit in (
        w,
        keeps,
        tt,
        subst (λ b. Rule (stepped s 0 (either b number n) id me.1 w keeps)) (sym (eq-eqb n 0 hit))
            (moved s r id v w (set s.words 0 number) s.homes r.log number Won id at refl
            (ap (λ (l : List ℕ). set l 0 number) r.words)
            (subst (λ (st : TurnStage). IsPlaced base history st s.homes origin.base r.log)
            (r.free zero_word) r.place)
            (λ e. absurd (omega (arith, ours.0.0))) (λ _. inl (refl, refl)) r.callers
            (record {
              same_origin = f.same_origin;
              numbers = f.numbers;
              seen = f.seen;
              looks = All-push (λ k. k ≤ origin.passes) v.looks 0 f.looks (omega arith);
              turn = λ _. (refl, refl, ap pass_number mine);
              seen_all = λ e. absurd (cc);
              parts = no_parts r.log v.numbers;
            })
            (λ k u apart there. still r.log r.holder number r.stage Won r.who id r.owner k u
            (idle_free s r k u zero_word there) (r.each k u there))),
        ((λ _. refl), λ miss. absurd (miss hit)),
      ))
      (λ miss. let w : K = looked_view v n Without in
      let busy : r.holder ≢ 0 = λ e. miss (n_is ∙ e) in
      let other = held_by_other s r id v at idle' busy in
      let number_n : IsPassNumber origin.passes n =
      subst (IsPassNumber origin.passes) (sym n_is) other.0 in (
        w,
        keeps,
        tt,
        subst (λ b. Rule (stepped s 0 (either b number n) id me.1 w keeps)) (sym (ne_eqb n 0 miss))
            (moved s r id v w (set s.words 0 n) s.homes r.log r.holder r.stage r.who at refl
            (ap (λ (l : List ℕ). set l 0 n) r.words ∙ ap
            (λ (k : ℕ). k ∷ count_of (length r.log) ∷ []) n_is)
            r.place r.free (λ _. inr (busy, refl, idle')) r.callers
            (record {
              same_origin = f.same_origin;
              numbers = f.numbers;
              seen = f.seen;
              looks = All-push (λ k. k ≤ origin.passes) v.looks n f.looks number_n.1;
              turn = λ e. absurd (true≢false (sym e));
              seen_all = λ e. absurd (cc);
              parts = no_parts r.log v.numbers;
            })
            (λ k u apart there. r.each k u there)),
        (
          (λ hit. absurd (miss hit)),
          (λ _. (
            refl,
            subst (λ (k : ℕ). is_among k v.numbers ≡ false) (sym n_is) other.1,
            (λ o is. subst (λ (z : Origin B). IsPassNumber z.passes n)
                (sym (f.same_origin o is)) number_n),
          )),
        ),
      ))

  -- ---- the load of the count word, at which the slot is taken

  pub takes_slot : (slots id : ℕ) (me : M) → me.0.stage ≡ Won
      → Allows Rule slots id me 1 (λ n. n) (took base history caller (step slots 1 0 0 none) me)
  takes_slot slots id me won s r _ at _ =
      let v : K = me.0 in
      let f = r.each id v at in
      let is_among : has_turn v.stage ≡ true = ap has_turn won in
      let t = f.turn is_among in
      let l = subst (λ (st : TurnStage). IsPlaced base history st s.homes origin.base r.log)
      (t.1 ∙ won) r.place in
      let x : V = l.0 in
      let w : K = saw_view v (history x) Out in (
        w,
        takes 0 (Some x),
        ap (λ (hs : List (maybe.Option (Option V))). get_elem? hs 0) l.1,
        moved s r id v w (set s.words 1 (get_or s.words 1 0))
            (set s.homes 0 none) r.log r.holder Out r.who at refl
            (ap (λ (ws : List ℕ). set ws 1 (get_or ws 1 0)) r.words)
            (ap (λ (hs : List (maybe.Option (Option V))). set hs 0 none) l.1)
            (λ e. let none_has : Won ≡ Without = sym won ∙ (sym t.1 ∙ r.free e) in absurd (cc))
            (λ _. inl (sym t.0, refl)) r.callers
            (record {
              same_origin = f.same_origin;
              numbers = f.numbers;
              seen = subst (λ (xs : List E). IsSeenOf caller r.log v.numbers xs) (sym l.3)
                  (seen_whole caller r.log v.numbers);
              looks = f.looks;
              turn = λ _. (t.0, refl, t.2);
              seen_all = λ _. l.3;
              parts = no_parts r.log v.numbers;
            })
            (λ k u apart there. still r.log r.holder r.holder r.stage Out r.who r.who r.owner k u
            (idle_other s r id v k u at is_among apart there) (r.each k u there)),
        (
          x,
          refl,
          subst (λ (xs : List E). IsSeenOf caller xs v.numbers v.seen) (sym l.3) f.seen,
          (λ o is. l.2 ∙ sym (ap (λ (z : Origin B). z.base) (f.same_origin o is))),
          ap (λ (ws : List ℕ). get_or ws 1 0) r.words ∙ ap (λ (xs : List E). count_of (length xs))
              (sym l.3),
        ),
      )

  -- ---- the store of the count word, at which the slot is given back

  pub gives_slot : (slots id : ℕ) (me : M) (x : V) (n : ℕ) → me.0.stage ≡ Out
      → me.1 ≡ (0, Some x) ∷ [] → base x ≡ origin.base
      → (more : List E) × (history x ≡ me.0.seen ++ more) × AreOf caller me.0.numbers more
      → n ≡ count_of (length (history x))
      → Allows Rule slots id me 1 (λ _. n) (λ _. gave history (step slots 1 n 0 none) me n)
  gives_slot slots id me x n out carried same_base grown n_is s r _ at _ =
      let v : K = me.0 in
      let f = r.each id v at in
      let is_among : has_turn v.stage ≡ true = ap has_turn out in
      let t = f.turn is_among in
      let more : List E = grown.0 in
      let is : r.log ++ more ≡ history x =
      ap (λ (l : List E). l ++ more) (sym (f.seen_all out)) ∙ sym grown.1 in
      let hole = subst (λ (st : TurnStage). IsPlaced base history st s.homes origin.base r.log)
      (t.1 ∙ out) r.place in
      let lies : homes_after s.homes me.1 gives ≡ some (Some x) ∷ [] =
      ap (λ (c : List (ℕ × Option V)). homes_after s.homes c gives) carried ∙ ap
      (λ (hs : List (maybe.Option (Option V))). set hs 0 (some (Some x))) hole in
      let w : K = saw_view v (history x) Back in
      let known : AllNumbers (history x) =
      subst AllNumbers is
      (All-append (λ e. IsPassNumber origin.passes (caller e)) r.log more r.callers
      (All-weaker (λ e. has_number v (caller e)) (λ e. IsPassNumber origin.passes (caller e))
      (λ e here. (f.numbers (caller e) here).0) more grown.2)) in (
        w,
        gives,
        tt,
        moved s r id v w (set s.words 1 n) (homes_after s.homes me.1 gives)
            (history x) r.holder Back r.who at refl
            (ap (λ (ws : List ℕ). set ws 1 n) r.words ∙ ap (λ (k : ℕ). r.holder ∷ k ∷ []) n_is)
            (x, lies, same_base, refl)
            (λ e. let none_has : Out ≡ Without = sym out ∙ (sym t.1 ∙ r.free e) in absurd (cc))
            (λ _. inl (sym t.0, refl)) known
            (record {
              same_origin = f.same_origin;
              numbers = f.numbers;
              seen = seen_whole caller (history x) v.numbers;
              looks = f.looks;
              turn = λ _. (t.0, refl, t.2);
              seen_all = λ _. refl;
              parts = no_parts (history x) v.numbers;
            })
            (λ k u apart there. let idle = idle_other s r id v k u at is_among apart there in
            let g = r.each k u there in
            let foreign : AreOthers caller u.numbers more =
            All-weaker (λ e. has_number v (caller e)) (λ e. not_number u (caller e))
            (λ e here. not_true (has_in u (caller e))
            (λ theirs. apart
            (sym (g.numbers (caller e) theirs).1 ∙ (f.numbers (caller e) here).1))) more grown.2
            in
            subst (λ (l : List E). Fits caller origin l r.holder Back r.who r.owner k u) is
            (beyond r.log more r.holder Back r.who r.owner k u idle foreign
            (still r.log r.holder r.holder r.stage Back r.who r.who r.owner k u idle g))),
        λ y carried'. let same : ◌≡◌ {A = List (ℕ × Option V)} ((0, Some x) ∷ [])
            ((0, Some y) ∷ []) = sym carried ∙ carried' in let x_is : x ≡ y = cc in
            λ i. (saw_view v (history (x_is i)) Back, ap rest carried i),
      )

  -- ---- the store of 0 to the holder word

  pub ends_turn : (slots id : ℕ) (me : M) → me.0.stage ≡ Back
      → Allows Rule slots id me 0 (λ _. 0) (λ _. ended (step slots 0 0 0 none) me 0)
  ends_turn slots id me back s r _ at _ =
      let v : K = me.0 in
      let f = r.each id v at in
      let is_among : has_turn v.stage ≡ true = ap has_turn back in
      let t = f.turn is_among in
      let w : K = saw_view v v.seen Without in (
        w,
        keeps,
        tt,
        moved s r id v w (set s.words 0 0) s.homes r.log 0 Without r.who at refl
            (ap (λ (ws : List ℕ). set ws 0 0) r.words)
            (subst (λ (st : TurnStage). IsPlaced base history st s.homes origin.base r.log)
            (t.1 ∙ back) r.place)
            (λ _. refl) (λ busy. absurd (busy refl)) r.callers
            (record {
              same_origin = f.same_origin;
              numbers = f.numbers;
              seen = f.seen;
              looks = f.looks;
              turn = λ e. absurd (true≢false (sym e));
              seen_all = λ e. absurd (cc);
              parts = no_parts r.log v.numbers;
            })
            (λ k u apart there. still r.log r.holder 0 r.stage Without r.who r.who r.owner k u
            (idle_other s r id v k u at is_among apart there) (r.each k u there)),
        refl,
      )

  -- ---- the end

  -- if one pass has all numbers and not the turn, the value is in the slot, and the pass has
  -- seen its history
  pub closes : (s : St) (r : Rule s) (id : ℕ) (v : K) → get_elem? s.views id ≡ some v
      → v.stage ≡ Without → ((n : ℕ) → IsPassNumber origin.passes n → is_among n v.numbers ≡ true)
      → (x : V) × (s.homes ≡ some (Some x) ∷ []) × (base x ≡ origin.base)
      × IsPrefix v.seen (history x) × (history x ≡ entries_of caller v.numbers v.seen)
  closes s r id v at idle all =
      let f = r.each id v at in
      let free : r.stage ≡ Without = dite (ℕ_discrete r.holder 0) (λ e. r.free e)
      (λ busy. let h = held_by_other s r id v at (ap has_turn idle) busy in
      absurd (not_both (is_among r.holder v.numbers) (all r.holder h.0) h.1)) in
      let l = subst
      (λ (st : TurnStage). IsPlaced base history st s.homes origin.base r.log) free r.place in
      let mine : AreOf caller v.numbers r.log =
      All-weaker (λ e. IsPassNumber origin.passes (caller e)) (λ e. has_number v (caller e))
      (λ e is. all (caller e) is) r.log r.callers in (
        l.0,
        l.1,
        l.2,
        subst (λ (xs : List E). IsPrefix v.seen xs) (sym l.3)
            (seen_begins caller r.log v.numbers v.seen f.seen),
        l.3 ∙ seen_all_own caller r.log v.numbers v.seen mine f.seen,
      )

  -- ---- for the calls

  -- the slot's value was exchanged for this one
  pub gives_new : (slots id : ℕ) (old me : M) (x : V) (n : ℕ)
      → me ≡ (old.0, (0, Some x) ∷ rest old.1) → old.1 ≡ (0, None) ∷ [] → old.0.stage ≡ Out
      → base x ≡ origin.base
      → (more : List E) × (history x ≡ old.0.seen ++ more) × AreOf caller old.0.numbers more
      → n ≡ count_of (length (history x))
      → Allows Rule slots id me 1 (λ _. n) (λ _. gave history (step slots 1 n 0 none) me n)
  gives_new slots id old me x n now hole out same_base grown n_is =
      subst (λ (m : M). Allows Rule slots id m 1 (λ _. n)
      (λ _. gave history (step slots 1 n 0 none) m n)) (sym now)
      (gives_slot slots id (old.0, (0, Some x) ∷ rest old.1) x n out
      (ap (λ (l : List (ℕ × Option V)). (0, Some x) ∷ rest l) hole) same_base grown n_is)

  -- what the last state says of the value that is taken out of the closed table
  pub closed : (words : List ℕ) (slots : List (Option V)) (id : ℕ) (v : K) (found : Option V)
      → Final (Seen Rule id v) words slots → get_elem? slots 0 ≡ some found
      → v.stage ≡ Without → ((n : ℕ) → IsPassNumber origin.passes n → is_among n v.numbers ≡ true)
      → (x : V) × (found ≡ Some x) × (base x ≡ origin.base) × IsPrefix v.seen (history x)
      × (history x ≡ entries_of caller v.numbers v.seen)
  closed words slots id v found final at idle all =
      let k = closes final.0 final.1.0 id v final.1.1 idle all in
      let there : get_elem? slots 0 ≡ some (Some k.0) =
      final.4 0 (Some k.0) (ap (λ (hs : List (maybe.Option (Option V))). get_elem? hs 0) k.1) in
      (k.0, one_view slots 0 found (Some k.0) at there, k.2, k.3, k.4)

  pub closed_some : (words : List ℕ) (slots : List (Option V)) (id : ℕ) (v : K) (found : Option V)
      → Final (Seen Rule id v) words slots → get_elem? slots 0 ≡ some found
      → v.stage ≡ Without → ((n : ℕ) → IsPassNumber origin.passes n → is_among n v.numbers ≡ true)
      → found ≡ None → ⊥
  closed_some words slots id v found final at idle all nothing =
      let k = closed words slots id v found final at idle all in
      let is : found ≡ Some k.0 = k.1 in absurd (cc)

  pub closed_value : (words : List ℕ) (slots : List (Option V)) (id : ℕ) (v : K) (found : Option V)
      (y : V) → Final (Seen Rule id v) words slots → get_elem? slots 0 ≡ some found
      → v.stage ≡ Without → ((n : ℕ) → IsPassNumber origin.passes n → is_among n v.numbers ≡ true)
      → found ≡ Some y
      → (base y ≡ origin.base) × IsPrefix v.seen (history y)
      × (history y ≡ entries_of caller v.numbers v.seen)
  closed_value words slots id v found y final at idle all is =
      let k = closed words slots id v found final at idle all in
      let x_is : found ≡ Some k.0 = k.1 in
      let same : k.0 ≡ y = cc in
      subst (λ (z : V). (base z ≡ origin.base) × IsPrefix v.seen (history z)
      × (history z ≡ entries_of caller v.numbers v.seen)) same (k.2, k.3, k.4)

-- the stage and the slots of a seat, by what it is
pub stage_of : {S B E : Type 0} (m : Me S (Known B E)) (v : Known B E) (c : List (ℕ × S))
    → m ≡ (v, c) → m.0.stage ≡ v.stage
stage_of {S} {B} {E} m v c e = ap (λ (z : Me S (Known B E)). z.0.stage) e

pub slot_of : {S B E : Type 0} (m : Me S (Known B E)) (v : Known B E) (a : ℕ × S) (c : List (ℕ × S))
    → m ≡ (v, a ∷ c) → m.1 ≡ a ∷ rest m.1
slot_of {S} {B} {E} m v a c e =
    ap (λ (z : Me S (Known B E)). z.1) e ∙ ap (λ (z : Me S (Known B E)). a ∷ rest z.1) (sym e)

-- the value that was taken out of the slot shows that the pass's own entries are in its history,
-- and no others of its numbers
pub took_own : {V B E : Type 0} (history : V → List E) (caller : E → ℕ) (v : Known B E)
    (m l : Me (Option V) (Known B E)) (c : List (ℕ × Option V)) (x y : V) (found : Option V)
    → m ≡ (looked_view v 0 Won, c) → IsSeenOf caller (history x) m.0.numbers m.0.seen
    → l ≡ (saw_view m.0 (history x) Out, (0, Some x) ∷ m.1) → l.1 ≡ (0, found) ∷ rest l.1
    → found ≡ Some y
    → entries_of caller v.numbers (history y) ≡ entries_of caller v.numbers v.seen
took_own {V} {B} {E} history caller v m l c x y found won known taken out is =
    let carried : l.1 ≡ (0, Some x) ∷ m.1 = ap (λ (z : Me (Option V) (Known B E)). z.1) taken in
    let same : ◌≡◌ {A = List (ℕ × Option V)} ((0, Some x) ∷ m.1) ((0, found) ∷ rest l.1) =
    sym carried ∙ out in
    let pair : ◌≡◌ {A = ℕ × Option V} (0, Some x) (0, found) = cc in
    let value : Some x ≡ found = ap (λ (p : ℕ × Option V). p.1) pair in
    let x_is : x ≡ y = cc in
    let known' : IsSeenOf caller (history x) v.numbers v.seen =
    subst (λ (z : Me (Option V) (Known B E)). IsSeenOf caller (history x) z.0.numbers z.0.seen)
    won known in
    seen_own caller (history y) v.numbers v.seen
    (subst (λ (z : V). IsSeenOf caller (history z) v.numbers v.seen) x_is known')
