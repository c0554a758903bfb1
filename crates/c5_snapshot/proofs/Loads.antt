-- One load after the other.
use Rattle.std.proofs.Common.{◌≡◌, ◌∙◌, ◌+◌, ◌-◌, ◌≤◌, ◌<◌, ◌⊎◌, inl, inr, ℕ, zero, suc, Bool, true}
use Rattle.std.proofs.Common.{false, List, [], ◌∷◌, ◌++◌, length, take, get_or, set, min, max, ap}
use Rattle.std.proofs.Common.{sym, subst, refl, arith, append_assoc, append-nil, Contains}
use Rattle.std.proofs.Common.{get_or-set_same, get_or-set_other, length-set, length-take, take_all}
use Rattle.std.specs.Prelude.{All, slice_index, slice_set}
use Rattle.std.proofs.Math.Seq.{take-suc-set}
use borrow.Author.Tests.{eqb-true, eqb-false, leb-true, leb-false}
use lib.Dec.{eqb, leb}
use Rattle.std.proofs.lemmas.List.Elements.{Contains-get_or, All-from_get_or}
use Rattle.c5_definitions.specs.WriteNumbers.{end_of}
use Rattle.c5_board.specs.declared.known.Look.{Look}
use Rattle.c5_board.specs.declared.known.Look.TheVariants.{LoadProgress}
use Rattle.c5_board.specs.Sets.{number_of, with_number}
use Rattle.c5_rows.specs.Numbers.{is_among}
use Rattle.c5_board.specs.Boards.{Board, Pass, IsWorker}
use Rattle.c5_board.specs.Passes.{floor_of}
use Rattle.c5_snapshot.specs.Advances.{progress_loads, LoadsEachProgress, IsLeastOf, advanced}
use Rattle.c5_snapshot.specs.Loading.{IsFloorUpTo, HasLoaded}

progress_loads-append : (i : ℕ) (found : List ℕ) (x : ℕ)
    → progress_loads i (found ++ x ∷ []) ≡ progress_loads i found
    ++ LoadProgress (i + length found) x ∷ []
progress_loads-append i [] x = ap (λ (n : ℕ). LoadProgress n x ∷ [])
    (let e : i ≡ i + 0 = omega arith in e)
progress_loads-append i (y ∷ found) x =
    ap (λ (rest : List Look). LoadProgress i y ∷ rest)
    (progress_loads-append (i + 1) found x ∙ ap
    (λ (n : ℕ). progress_loads (i + 1) found ++ LoadProgress n x ∷ [])
    (let e : (i + 1) + length found ≡ i + suc (length found) = omega arith in e))

-- the floor of worker i after that of another, or its own, was set
at_floor : (floors : List ℕ) (n x i : ℕ) (P : ℕ → Type 0) → n + 1 ≤ length floors → 1 ≤ i
    → (i ≡ n + 1 → P x) → ((i ≡ n + 1 → ⊥) → P (number_of floors i))
    → P (number_of (with_number floors (n + 1) x) i)
at_floor floors n x i P within some same other = by (eqb i (n + 1)) refl
  where
    by : (b : Bool) → eqb i (n + 1) ≡ b → P (number_of (with_number floors (n + 1) x) i)
    by true t =
        let e : i ≡ n + 1 = eqb-true i (n + 1) t in
        let place : i - 1 ≡ n + 1 - 1 = omega arith in
        let less : n + 1 - 1 < length floors = omega arith in
        subst P (sym
        (ap (λ (k : ℕ). get_or (set floors (n + 1 - 1) x) k 0) place ∙ get_or-set_same floors
        (n + 1 - 1) x 0 less)) (same e)
    by false t =
        let d : i ≡ n + 1 → ⊥ = eqb-false i (n + 1) t in
        let apart : i - 1 ≡ n + 1 - 1 → ⊥ = λ e. d (omega arith) in
        subst P (sym (get_or-set_other floors (n + 1 - 1) (i - 1) x 0 apart)) (other d)

pub HasLoaded-none : (old : Pass) → HasLoaded old old 0 1
HasLoaded-none old = record {
  pass = λ j. record old { looks = sym (append-nil old.looks) j };
  count = refl;
  rise = λ i some. omega arith;
  own = λ i some role. refl;
  above = λ i some up_to. absurd (omega arith);
  among = λ some. absurd (omega arith);
  not_above = λ i some up_to. absurd (omega arith);
  positive = omega arith;
}

loads_more : (looks : List Look) (floors : List ℕ) (n x : ℕ) → n + 1 ≤ length floors
    → (looks ++ progress_loads 1 (take n floors)) ++ LoadProgress (n + 1) x ∷ []
    ≡ looks ++ progress_loads 1 (take (n + 1) (with_number floors (n + 1) x))
loads_more looks floors n x within =
    let less : n < length floors = omega arith in
    let place : n ≡ n + 1 - 1 = omega arith in
    let len : 1 + length (take n floors) ≡ n + 1 = omega (arith, length-take n floors) in
    append_assoc looks (progress_loads 1 (take n floors)) (LoadProgress (n + 1) x ∷ [])
    ∙ ap (λ (rest : List Look). looks ++ rest)
    (ap (λ (k : ℕ). progress_loads 1 (take n floors) ++ LoadProgress k x ∷ []) (sym len)
    ∙ sym (progress_loads-append 1 (take n floors) x)
    ∙ ap (progress_loads 1)
    (sym (take-suc-set floors n x less) ∙ (λ j. take (suc_one n j) (set floors (place j) x))))
  where
    suc_one : (n : ℕ) → suc n ≡ n + 1
    suc_one n = omega arith

pub HasLoaded-more : (old mid new : Pass) (n least x m : ℕ) → HasLoaded old mid n least
    → new ≡ record mid {
      floors = with_number mid.floors (n + 1) x;
      looks = mid.looks ++ LoadProgress (n + 1) x ∷ [];
    }
    → n + 1 ≤ length mid.floors → floor_of mid (n + 1) ≤ x → 1 ≤ x
    → (is_among (n + 1) mid.roles ≡ true → x ≡ floor_of mid (n + 1))
    → end_of mid.board.log.txns mid.place < x
    → 1 ≤ m → m ≤ x → (1 ≤ n → m ≤ least) → (m ≡ x) ⊎ ((m ≡ least) × (1 ≤ n))
    → HasLoaded old new (n + 1) m
HasLoaded-more old mid new n least x m h is within up some own above first low lower one =
    let floors : new.floors ≡ with_number mid.floors (n + 1) x = ap (λ (p : Pass). p.floors) is in
    let looks : mid.looks ≡ old.looks ++ progress_loads 1 (take n mid.floors) =
    ap (λ (p : Pass). p.looks) h.pass in
    let roles : mid.roles ≡ old.roles = ap (λ (p : Pass). p.roles) h.pass in
    let end : end_of mid.board.log.txns mid.place ≡ end_of old.board.log.txns old.place =
    ap (λ (p : Pass). end_of p.board.log.txns p.place) h.pass in
    let at : (i : ℕ) (P : ℕ → Type 0) → 1 ≤ i → (i ≡ n + 1 → P x)
    → ((i ≡ n + 1 → ⊥) → P (floor_of mid i)) → P (floor_of new i) =
    λ i P some same other. subst (λ (fs : List ℕ). P (number_of fs i)) (sym floors)
    (at_floor mid.floors n x i P within some same other) in
    record {
      pass =
          is
          ∙ (λ j. record (h.pass j) {
            floors = with_number mid.floors (n + 1) x;
            looks = (looks j) ++ LoadProgress (n + 1) x ∷ [];
          })
          ∙ (λ j. record old {
            floors = sym floors j;
            looks = loads_more old.looks mid.floors n x within j;
          })
          ∙ (λ j. record old {
            floors = new.floors;
            looks = old.looks ++ progress_loads 1 (take (n + 1) (sym floors j));
          });
      count = ap length floors ∙ length-set mid.floors (n + 1 - 1) x ∙ h.count;
      rise = λ i p. at i (λ (y : ℕ). floor_of old i ≤ y) p
          (λ e. let r = h.rise i p in let same = ap (floor_of mid) e in omega arith)
          (λ d. h.rise i p);
      own = λ i p role. at i (λ (y : ℕ). y ≡ floor_of old i) p
          (λ e. own
          (subst (λ (k : ℕ). is_among k mid.roles ≡ true) e (ap (is_among i) roles ∙ role)) ∙ ap
          (floor_of mid) (sym e) ∙ h.own i p role)
          (λ d. h.own i p role);
      above = λ i p up_to. at i (λ (y : ℕ). end_of old.board.log.txns old.place < y) p
          (λ e. omega arith) (λ d. h.above i p (omega arith));
      among = λ p. elim one [
        | inl e ↦ record {
          worker = n + 1;
          is_worker = (omega arith, omega arith);
          is_floor = at (n + 1) (λ (y : ℕ). y ≡ m) (omega arith) (λ _. sym e)
              (λ d. absurd (d refl));
        }
        | inr e ↦
            let w = h.among e.1 in
            let bound = w.is_worker in
            record {
              worker = w.worker;
              is_worker = (bound.0, omega arith);
              is_floor = at w.worker (λ (y : ℕ). y ≡ m) bound.0 (λ q. absurd (omega arith))
                  (λ d. w.is_floor ∙ sym e.0);
            }
      ];
      not_above = λ i p up_to. at i (λ (y : ℕ). m ≤ y) p (λ e. low)
          (λ d. let r = h.not_above i p (omega arith) in let l = lower (omega arith) in
          omega arith);
      positive = first;
    }

lesser_is : (a b : ℕ) → (min a b ≡ a) ⊎ (min a b ≡ b)
lesser_is a b = by (leb a b) refl
  where
    by : (t : Bool) → leb a b ≡ t → (min a b ≡ a) ⊎ (min a b ≡ b)
    by true h = let le = leb-true a b h in inl (omega arith)
    by false h = let lt = leb-false a b h in inr (omega arith)

-- the lesser of the least before and the number found
pub HasLoaded-min : (old mid new : Pass) (n least x m : ℕ) → HasLoaded old mid n least
    → new ≡ record mid {
      floors = with_number mid.floors (n + 1) x;
      looks = mid.looks ++ LoadProgress (n + 1) x ∷ [];
    }
    → n + 1 ≤ length mid.floors → floor_of mid (n + 1) ≤ x → 1 ≤ x
    → (is_among (n + 1) mid.roles ≡ true → x ≡ floor_of mid (n + 1))
    → end_of mid.board.log.txns mid.place < x
    → m ≡ min least x → 1 ≤ n → HasLoaded old new (n + 1) m
HasLoaded-min old mid new n least x m h is within up some own above e later =
    let p = h.positive in
    HasLoaded-more old mid new n least x m h is within up some own above (omega arith) (omega arith)
    (λ _. omega arith) (which (lesser_is least x))
  where
    which : (min least x ≡ least) ⊎ (min least x ≡ x) → (m ≡ x) ⊎ ((m ≡ least) × (1 ≤ n))
    which (inl q) = inr (e ∙ q, later)
    which (inr q) = inl (e ∙ q)

-- the pass after the place was made visible, and the least of its floors
pub finds_least : (old mid : Pass) (n least : ℕ) → HasLoaded old mid n least → 1 ≤ n
    → length mid.floors ≡ n → IsLeastOf least mid.floors
finds_least old mid n least h some count =
    let w = h.among some in
    let bound = w.is_worker in
    record {
      among = subst (Contains mid.floors) w.is_floor
          (Contains-get_or mid.floors (w.worker - 1) 0 (omega arith));
      not_above = All-from_get_or (λ (x : ℕ). least ≤ x) mid.floors 0
          (λ i less. subst (λ (k : ℕ). least ≤ get_or mid.floors k 0)
          (let e : i + 1 - 1 ≡ i = omega arith in e)
          (h.not_above (i + 1) (omega arith) (omega arith)));
    }

-- the writes of the place so far are below the least of all floors
pub below_least : (old mid : Pass) (n least : ℕ) → HasLoaded old mid n least → 1 ≤ n
    → end_of old.board.log.txns old.place < least
below_least old mid n least h some =
    let w = h.among some in
    let bound = w.is_worker in
    subst (λ (x : ℕ). end_of old.board.log.txns old.place < x) w.is_floor
    (h.above w.worker bound.0 bound.1)

module _ (old mid new : Pass) (b : Board) (n least place : ℕ) (h : HasLoaded old mid n least)
    (of : old.board ≡ b) (old_count : length old.floors ≡ old.board.workers)
    (workers : n ≡ b.workers)
    (is : new
    ≡ record mid { place = place; scheduled = max mid.scheduled (end_of b.log.txns place) })
  where
    floors-kept : mid.floors ≡ new.floors
    floors-kept = sym (ap (λ (p : Pass). p.floors) is)

    count : length mid.floors ≡ n
    count = h.count ∙ old_count ∙ ap (λ (x : Board). x.workers) of ∙ sym workers

    pub pass-advanced : new ≡ advanced old new.floors place
    pass-advanced =
        let few = count in
        let all : take n mid.floors ≡ new.floors =
        take_all n mid.floors (omega arith) ∙ floors-kept in
        is
        ∙ (λ j. record (h.pass j) {
          place = place;
          scheduled = max (h.pass j).scheduled (end_of (sym of j).log.txns place);
        })
        ∙ (λ j. record old {
          floors = floors-kept j;
          place = place;
          scheduled = max old.scheduled (end_of old.board.log.txns place);
          looks =
              old.looks ++ progress_loads 1 (all j);
        })

    pub progress-loaded : LoadsEachProgress old new
    progress-loaded =
        record {
          count = ap length (sym floors-kept) ∙ h.count ∙ old_count;
          rise = λ i w. subst (λ (fs : List ℕ). floor_of old i ≤ number_of fs i) floors-kept
              (h.rise i w.0);
          own = λ i w role. subst (λ (fs : List ℕ). number_of fs i ≡ floor_of old i) floors-kept
              (h.own i w.0 role);
        }

    pub least-found : 1 ≤ n → IsLeastOf least new.floors
    least-found some = subst (IsLeastOf least) floors-kept
        (finds_least old mid n least h some count)
