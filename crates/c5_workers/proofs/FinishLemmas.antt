-- All workers of a pass, as what is left is installed and progress is stored.
use Rattle.std.proofs.Common.{◌≡◌, ◌∙◌, ◌+◌, ◌-◌, ◌%◌, ◌≤◌, ◌<◌, ◌++◌, ◌⊎◌, inl, inr, ℕ, suc, Bool}
use Rattle.std.proofs.Common.{true, false, List, [], ◌∷◌, length, cond, get_or, set, Some}
use Rattle.std.proofs.Common.{slice_get, ap, sym, subst, refl, arith, true≢false, length-set}
use Rattle.std.proofs.Common.{get_or-set_same, get_or-set_other}
use borrow.Author.Tests.{eqb-true, eqb-false, ltb-true, ltb-false}
use lib.Dec.{eqb, ltb}
use Rattle.std.specs.List.{flat_map}
use Rattle.std.proofs.lemmas.List.{flat_map_more}
use Rattle.std.proofs.lemmas.Option.{slice_get_within, get_or_from_slice_get, slice_get-get_or}
use Rattle.c5_rows.specs.Numbers.{is_among}
use Rattle.c5_definitions.specs.WriteNumbers.{owner_of, IsWrite}
use Rattle.c5_definitions.specs.NumberLaws.{NumbersAreOwned}
use Rattle.c5_board.specs.Boards.{Board, Pass, names, write_count, IsWorker}
use Rattle.c5_board.specs.Passes.{IsSound, owner_in, floor_of}
use Rattle.c5_workers.specs.declared.worker.Worker.{Worker}
use Rattle.c5_workers.specs.Tries.{least_of}
use Rattle.c5_workers.specs.Work.{FitsWorker, with_progress}
use Rattle.c5_workers.specs.Left.{left_up_to, install_looks, with_left}
use Rattle.c5_workers.specs.Finishing.{AreWorkersOf, IsAboveWrites, HasInstalled, AreAllInstalled}
use Rattle.c5_workers.specs.Finishing.{HasStored}
use Rattle.c5_workers.proofs.WorkLemmas.{outstanding}
use Rattle.c5_workers.proofs.LeftLemmas.{left-other, among-left, among-itself}

-- ---- the worker at a place

pub worker-at : (p : Pass) (workers : List Worker) (k : ℕ) (d : Worker) → AreWorkersOf p workers
    → k < length workers → FitsWorker (get_or workers k d) p × ((get_or workers k d).i ≡ k + 1)
worker-at p workers k d are less =
    let at = slice_get-get_or workers k d less in
    (are.each k (get_or workers k d) at, are.order k (get_or workers k d) at)

pub owner-at : (workers n : ℕ) → owner_of workers (n + 1) ≡ n % workers + 1
unfolding owner_of
owner-at workers n = ap (λ (k : ℕ). k % workers + 1) (let e : (n + 1) - 1 ≡ n = omega arith in e)

-- what is at a place after another worker was put at one
record IsOther (workers : List Worker) (k j : ℕ) (u : Worker) : Type 0 where
  apart : j ≡ k → ⊥
  there : slice_get workers j ≡ Some u

set_cases : (workers : List Worker) (k j : ℕ) (after u : Worker) → k < length workers
    → slice_get (set workers k after) j ≡ Some u → ((j ≡ k) × (u ≡ after)) ⊎ IsOther workers k j u
set_cases workers k j after u less at = by (eqb j k) refl
  where
    here : get_or (set workers k after) j u ≡ u
    here = get_or_from_slice_get (set workers k after) j u u at

    by : (b : Bool) → eqb j k ≡ b → ((j ≡ k) × (u ≡ after)) ⊎ IsOther workers k j u
    by true e =
        let same = eqb-true j k e in
        inl (
          same,
          sym here ∙ ap
              (λ (n : ℕ). get_or (set workers k after) n u) same ∙ get_or-set_same workers k after u
              less,
        )
    by false e =
        let apart = eqb-false j k e in
        let within = slice_get_within (set workers k after) j u at in
        let len = length-set workers k after in
        inr (record {
          apart = apart;
          there = slice_get-get_or workers j u (omega arith) ∙ ap (λ (x : Worker). Some x)
              (sym (get_or-set_other workers k j after u apart) ∙ here);
        })

-- ---- one write more is installed

pub workers-left : (p q : Pass) (workers : List Worker) (k w : ℕ) (after d : Worker)
    → AreWorkersOf p workers → k < length workers → owner_in p w ≡ k + 1 → FitsWorker after q
    → after.i ≡ (get_or workers k d).i → q ≡ with_left p w
    → AreWorkersOf q (set workers k after)
workers-left p q workers k w after d are less owned fits same is = record {
  count = length-set workers k after ∙ are.count ∙ ap (λ (x : Pass). x.board.workers) (sym is);
  order = λ j u at. order j u (set_cases workers k j after u less at);
  each = λ j u at. each j u (set_cases workers k j after u less at);
}
  where
    order : (j : ℕ) (u : Worker) → ((j ≡ k) × (u ≡ after)) ⊎ IsOther workers k j u → u.i ≡ j + 1
    order j u (inl h) = ap (λ (x : Worker). x.i) h.1 ∙ same ∙
        (worker-at p workers k d are less).1 ∙ ap (λ (n : ℕ). n + 1) (sym h.0)
    order j u (inr h) = are.order j u h.there

    each : (j : ℕ) (u : Worker) → ((j ≡ k) × (u ≡ after)) ⊎ IsOther workers k j u → FitsWorker u q
    each j u (inl h) = subst (λ (x : Worker). FitsWorker x q) (sym h.1) fits
    each j u (inr h) =
        let its = are.order j u h.there in
        left-other u p q w (are.each j u h.there)
        (λ e. h.apart (let d : j ≡ k = omega arith in d)) is

module _ (old now new : Pass) (n : ℕ) (h : HasInstalled old now n)
    (is : new ≡ with_left now (n + 1)) where
  number : n + 1 ≡ suc n
  number = omega arith

  is_so : new ≡ with_left now (suc n)
  is_so = is ∙ ap (with_left now) number

  looks-with : (b : Bool) → cond b
      (old.looks ++ flat_map (install_looks (names old.board)) (left_up_to old.installed n))
      ((old.looks ++ flat_map (install_looks (names old.board)) (left_up_to old.installed n))
      ++ install_looks (names old.board) (suc n))
      ≡ old.looks ++ flat_map (install_looks (names old.board))
      (cond b (left_up_to old.installed n) (left_up_to old.installed n ++ suc n ∷ []))
  looks-with true = refl
  looks-with false = flat_map_more (install_looks (names old.board)) old.looks
      (left_up_to old.installed n) (suc n)

  same_test : is_among (suc n) now.installed ≡ is_among (suc n) old.installed
  same_test = h.above (suc n) (omega arith)

  new_pass : new ≡ record old {
    installed = new.installed;
    looks = old.looks ++ flat_map (install_looks (names old.board))
        (left_up_to old.installed (n + 1));
  }
  new_pass =
      is_so
      ∙ (λ j. record (h.pass j) {
        installed = (with_left now (suc n)).installed;
        looks = cond (is_among (suc n) now.installed) (h.pass j).looks
            ((h.pass j).looks ++ install_looks (names (h.pass j).board) (suc n));
      })
      ∙ (λ j. record old {
        installed = ap (λ (x : Pass). x.installed) (sym is_so) j;
        looks = cond (same_test j)
            (old.looks ++ flat_map (install_looks (names old.board)) (left_up_to old.installed n))
            ((old.looks ++ flat_map (install_looks (names old.board)) (left_up_to old.installed n))
            ++ install_looks (names old.board) (suc n));
      })
      ∙ (λ j. record old {
        installed = new.installed;
        looks = looks-with (is_among (suc n) old.installed) j;
      })
      ∙ (λ j. record old {
        installed = new.installed;
        looks = old.looks ++ flat_map (install_looks (names old.board))
            (left_up_to old.installed (sym number j));
      })

  pub installed-more : HasInstalled old new (n + 1)
  installed-more = record {
    pass = new_pass;
    below = λ w write up_to. ap (λ (x : Pass). is_among w x.installed) is_so ∙ below w write up_to
        (eqb w (suc n)) refl;
    above = λ w more. ap (λ (x : Pass). is_among w x.installed) is_so ∙ among-left now (suc n) w
        (λ e. omega arith) ∙ h.above w (omega arith);
  }
    where
      below : (w : ℕ) → IsWrite (names old.board) w → w ≤ n + 1 → (b : Bool) → eqb w (suc n) ≡ b
          → is_among w (with_left now (suc n)).installed ≡ true
      below w write up_to true e =
          ap (λ (v : ℕ). is_among v (with_left now (suc n)).installed)
          (eqb-true w (suc n) e) ∙ among-itself now (suc n)
      below w write up_to false e = let apart = eqb-false w (suc n) e in
          among-left now (suc n) w apart ∙ h.below w write (lower w n up_to apart)
        where
          lower : (w n : ℕ) → w ≤ n + 1 → (w ≡ suc n → ⊥) → w ≤ n
          lower w n le apart = split (ltb n w) refl
            where
              split : (t : Bool) → ltb n w ≡ t → w ≤ n
              split true t = let less = ltb-true n w t in absurd (apart (omega arith))
              split false t = ltb-false n w t

-- ---- progress

stored-each : (w : Worker) (p q : Pass) (i x : ℕ) → FitsWorker w p → q ≡ with_progress p i x
    → FitsWorker w q
stored-each w p q i x fits is =
    let fit : FitsWorker w (with_progress p i x) =
    record {
      workers = fits.workers;
      worker = fits.worker;
      few_workers = fits.few_workers;
      numbers = fits.numbers;
      few = fits.few;
      room = fits.room;
    } in
    subst (FitsWorker w) (sym is) fit

pub workers-stored : (p q : Pass) (workers : List Worker) (i x : ℕ) → AreWorkersOf p workers
    → q ≡ with_progress p i x → AreWorkersOf q workers
workers-stored p q workers i x are is = record {
  count = are.count ∙ ap (λ (y : Pass). y.board.workers) (sym is);
  order = are.order;
  each = λ k u at. stored-each u p q i x (are.each k u at) is;
}

-- the least number of a worker is above the writes if they all are installed
least-above : (u : Worker) (p : Pass) → NumbersAreOwned p.board.workers → IsSound p → FitsWorker u p
    → AreAllInstalled p → IsAboveWrites p u.i (least_of u.put_off.items u.next)
least-above u p owners sound fits all =
    let least = outstanding u p owners sound fits in
    record {
      above = above (least_of u.put_off.items u.next) least.positive least.not_installed;
      owned = least.owned;
      least = λ v more owned. not_above (least_of u.put_off.items u.next) v (λ less.
          let done = least.least v (omega arith) less owned in
          let within = (sound.installed v done).0.within in
          omega arith);
    }
  where
    above : (x : ℕ) → 1 ≤ x → is_among x p.installed ≡ false → write_count p.board < x
    above x some new = split (ltb (write_count p.board) x) refl
      where
        split : (t : Bool) → ltb (write_count p.board) x ≡ t → write_count p.board < x
        split true t = ltb-true (write_count p.board) x t
        split false t =
            absurd (true≢false
            (sym (all x (record { positive = some; within = ltb-false (write_count p.board) x t }))
            ∙ new))

    not_above : (x v : ℕ) → (v < x → ⊥) → x ≤ v
    not_above x v never = split (ltb v x) refl
      where
        split : (t : Bool) → ltb v x ≡ t → x ≤ v
        split true t = absurd (never (ltb-true v x t))
        split false t = ltb-false v x t

above-in : (p q : Pass) (i x : ℕ) → q.board ≡ p.board → IsAboveWrites p i x → IsAboveWrites q i x
above-in p q i x board h = record {
  above = subst (λ (b : Board). write_count b < x) (sym board) h.above;
  owned = ap (λ (b : Board). owner_of b.workers x) board ∙ h.owned;
  least = λ v more owned. h.least v (subst (λ (b : Board). write_count b < v) board more)
      (ap (λ (b : Board). owner_of b.workers v) (sym board) ∙ owned);
}

pub stored-more : (old now new : Pass) (k : ℕ) (u : Worker) → NumbersAreOwned now.board.workers
    → IsSound now → FitsWorker u now → u.i ≡ k + 1 → AreAllInstalled old → HasStored old now k
    → new ≡ with_progress now u.i (least_of u.put_off.items u.next) → HasStored old new (k + 1)
stored-more old now new k u owners sound fits its all h is = record {
  pass = is ∙
      (λ j. record
      (h.pass j) { floors = (with_progress now u.i (least_of u.put_off.items u.next)).floors }) ∙
      (λ j. record old { floors = ap (λ (x : Pass). x.floors) (sym is) j });
  floors = λ i worker. above-in now new i (floor_of new i) (ap (λ (x : Pass). x.board) is)
      (by i worker (eqb i u.i) refl);
}
  where
    all-now : AreAllInstalled now
    all-now = subst AreAllInstalled (sym h.pass) all

    by : (i : ℕ) → IsWorker (k + 1) i → (b : Bool) → eqb i u.i ≡ b
        → IsAboveWrites now i (floor_of new i)
    by i worker true e =
        let same = eqb-true i u.i e in
        let some = fits.worker.0 in
        let most = fits.worker.1 in
        let workers = fits.workers in
        let count = sound.count in
        let floor : floor_of new i ≡ least_of u.put_off.items u.next =
        ap (λ (x : Pass). floor_of x i) is ∙ ap
        (λ (n : ℕ). get_or (set now.floors (u.i - 1) (least_of u.put_off.items u.next))
        (n - 1) 0) same
        ∙ get_or-set_same now.floors (u.i - 1) (least_of u.put_off.items u.next) 0 (omega arith) in
        subst (λ (n : ℕ). IsAboveWrites now i n) (sym floor)
        (subst (λ (n : ℕ). IsAboveWrites now n (least_of u.put_off.items u.next)) (sym same)
        (least-above u now owners sound fits all-now))
    by i worker false e =
        let apart = eqb-false i u.i e in
        let some = worker.0 in
        let most = worker.1 in
        let positive = fits.worker.0 in
        let floor : floor_of new i ≡ floor_of now i =
        ap (λ (x : Pass). floor_of x i) is ∙ get_or-set_other now.floors (u.i - 1) (i - 1)
        (least_of u.put_off.items u.next) 0 (λ q. apart (let d : i ≡ u.i = omega arith in d)) in
        subst (λ (n : ℕ). IsAboveWrites now i n) (sym floor)
        (h.floors i (some, up_to i k most (λ q. apart (q ∙ sym its))))
      where
        up_to : (i k : ℕ) → i ≤ k + 1 → (i ≡ k + 1 → ⊥) → i ≤ k
        up_to i k le d = split (ltb k i) refl
          where
            split : (t : Bool) → ltb k i ≡ t → i ≤ k
            split true t = let less = ltb-true k i t in absurd (d (omega arith))
            split false t = ltb-false k i t
