-- What a worker's turn leaves as it was.
use Rattle.std.proofs.Common.{◌≡◌, ◌∙◌, ◌-◌, ◌≤◌, ◌++◌, ◌||◌, ℕ, Bool, true, false, List, [], ◌∷◌}
use Rattle.std.proofs.Common.{Option, Some, None, cond, get_or-set_other, ap, sym, subst, refl}
use Rattle.std.proofs.Common.{arith, append_assoc, append-nil}
use borrow.Author.Tests.{ne_eqb}
use lib.Dec.{eqb}
use Rattle.std.specs.List.{AllByRecursion}
use Rattle.c5_rows.specs.declared.writes.RowName.{RowName}
use Rattle.c5_rows.specs.Numbers.{is_among}
use Rattle.c5_definitions.specs.WriteNumbers.{owner_of, predecessor_of}
use Rattle.c5_board.specs.declared.known.Look.{Look}
use Rattle.c5_board.specs.Boards.{Board, Pass, names, IsWorker}
use Rattle.c5_board.specs.Passes.{owner_in}
use Rattle.c5_chains.specs.declared.install.Install.{Install}
use Rattle.c5_chains.specs.Tries.{after_try, head_found}
use Rattle.c5_workers.specs.declared.worker.Worker.{Worker}
use Rattle.c5_workers.specs.Tries.{IsWaiting, Tries, Retries}
use Rattle.c5_workers.specs.Work.{FitsWorker, TriesNext, OnlyWorks, with_scheduled, with_progress}

pub only-none : (i : ℕ) (p : Pass) → OnlyWorks i p p
only-none i p =
    record {
      rest = refl;
      scheduled = omega arith;
      installed = λ w other. refl;
      floors = λ j is other. refl;
      more = [];
      looks = sym (append-nil p.looks);
    }

pub only-same : (i : ℕ) (p q : Pass) → q ≡ p → OnlyWorks i p q
only-same i p q is = subst (OnlyWorks i p) (sym is) (only-none i p)

pub only-then : (i : ℕ) (p q r : Pass) → OnlyWorks i p q → OnlyWorks i q r → OnlyWorks i p r
only-then i p q r h k =
    let up = h.scheduled in
    let further = k.scheduled in
    let board : q.board ≡ p.board = ap (λ (x : Pass). x.board) h.rest in
    record {
      rest = k.rest ∙
          (λ j. record (h.rest j) {
            installed = r.installed;
            floors = r.floors;
            scheduled = r.scheduled;
            looks = r.looks;
          });
      scheduled = omega arith;
      installed = λ w other. k.installed w
          (λ e. other (ap (λ (b : Board). owner_of b.workers w) (sym board) ∙ e)) ∙ h.installed w
          other;
      floors = λ j is other. k.floors j
          (subst (λ (b : Board). IsWorker b.workers j) (sym board) is) other ∙ h.floors j is other;
      more = h.more ++ k.more;
      looks = k.looks ∙ ap (λ (l : List Look). l
          ++ k.more) h.looks ∙ append_assoc p.looks h.more k.more;
    }

-- one try
pub only-tried : (i : ℕ) (p : Pass) (w head : ℕ) → owner_in p w ≡ i
    → OnlyWorks i p (after_try p w head)
only-tried i p w head owned = record {
  rest = refl;
  scheduled = omega arith;
  installed = λ v other. by v (λ e. other (ap (λ (n : ℕ). owner_in p n) e ∙ owned))
      (eqb head (predecessor_of (names p.board) w));
  floors = λ j is other. refl;
  more = _;
  looks = refl;
}
  where
    by : (v : ℕ) → (v ≡ w → ⊥) → (b : Bool)
        → is_among v (cond b (w ∷ p.installed) p.installed) ≡ is_among v p.installed
    by v apart true = ap (λ (b : Bool). b || is_among v p.installed) (ne_eqb v w apart)
    by v apart false = refl

-- tries of numbers that the worker owns
pub only-tries : (i : ℕ) (p q : Pass) (list : List ℕ) (results : List Install)
    → AllByRecursion (λ w. owner_in p w ≡ i) list → Tries p q list results → OnlyWorks i p q
only-tries i p q [] [] own h = only-same i p q h
only-tries i p q [] (r ∷ results) own h = absurd h
only-tries i p q (w ∷ list) [] own h = absurd h
only-tries i p q (w ∷ list) (r ∷ results) own h =
    only-then i p (after_try p w (head_found (names p.board) w r)) q
    (only-tried i p w (head_found (names p.board) w r) own.0)
    (only-tries i (after_try p w (head_found (names p.board) w r)) q list results own.1 h.1)

pub only-loaded : (i : ℕ) (p : Pass) (x : ℕ) → p.scheduled ≤ x → OnlyWorks i p (with_scheduled p x)
only-loaded i p x up =
    record {
      rest = refl;
      scheduled = up;
      installed = λ w other. refl;
      floors = λ j is other. refl;
      more = _;
      looks = refl;
    }

pub only-stored : (i : ℕ) (p : Pass) (x : ℕ) → 1 ≤ i → OnlyWorks i p (with_progress p i x)
only-stored i p x some = record {
  rest = refl;
  scheduled = omega arith;
  installed = λ w other. refl;
  floors = λ j is other. let positive = is.0 in
      get_or-set_other p.floors (i - 1) (j - 1) x 0 (λ e. other (let d : j ≡ i = omega arith in d));
  more = [];
  looks = sym (append-nil p.looks);
}

waiting-own : (workers : ℕ) (ns : List RowName) (scheduled i next : ℕ) (list : List ℕ)
    → AllByRecursion (IsWaiting workers ns scheduled i next) list
    → AllByRecursion (λ w. owner_of workers w ≡ i) list
waiting-own workers ns scheduled i next [] h = tt
waiting-own workers ns scheduled i next (w ∷ list) h =
    (h.0.owned, waiting-own workers ns scheduled i next list h.1)

only-next : (i : ℕ) (old new : Worker) (p q : Pass) (result : Option Install)
    → owner_in p old.next ≡ i → TriesNext old new p q result → OnlyWorks i p q
only-next i old new p q None owned h = only-same i p q h.1
only-next i old new p q (Some result) owned h =
    subst (OnlyWorks i p) (sym h.pass)
    (only-tried i p old.next (head_found (names p.board) old.next result) owned)

next-i : (old new : Worker) (p q : Pass) (result : Option Install) → TriesNext old new p q result
    → new.i ≡ old.i
next-i old new p q None h = ap (λ (w : Worker). w.i) h.2
next-i old new p q (Some result) h = h.same.i

-- a turn with tries
pub only-worked : (old middle new : Worker) (p a b c q : Pass) (x y : ℕ) (kept : List ℕ)
    (result : Option Install) → FitsWorker old p → p.scheduled ≤ x → a ≡ with_scheduled p x
    → Retries a b old.put_off.items kept
    → FitsWorker middle b → middle.i ≡ old.i → TriesNext middle new b c result
    → q ≡ with_progress c new.i y → OnlyWorks old.i p q
only-worked old middle new p a b c q x y kept result fits up loaded retries fit same tries stored =
    let board : a.board ≡ p.board = ap (λ (z : Pass). z.board) loaded in
    let own : AllByRecursion (λ w. owner_in a w ≡ old.i) old.put_off.items =
    subst (λ (n : Board). AllByRecursion (λ w. owner_of n.workers w ≡ old.i) old.put_off.items)
    (sym board)
    (waiting-own p.board.workers
    (names p.board) p.scheduled old.i old.next old.put_off.items fits.numbers.waiting) in
    only-then old.i p a q (subst (OnlyWorks old.i p) (sym loaded) (only-loaded old.i p x up))
    (only-then old.i a b q
    (only-tries old.i a b old.put_off.items retries.results own retries.tries)
    (only-then old.i b c q (only-next old.i middle new b c result (fit.numbers.owned ∙ same) tries)
    (subst (OnlyWorks old.i c)
    (sym (stored ∙ ap (λ (n : ℕ). with_progress c n y)
    (next-i middle new b c result tries ∙ same))) (only-stored old.i c y fits.worker.0))))
