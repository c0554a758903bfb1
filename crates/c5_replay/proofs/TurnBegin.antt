-- The pass and the workers before the first word of a schedule.
use Rattle.std.proofs.Common.{◌≡◌, ◌∙◌, ◌+◌, ◌-◌, ◌≤◌, ◌<◌, ℕ, zero, suc, true, List, [], ◌∷◌}
use Rattle.std.proofs.Common.{length, map, get_or, Some, slice_get, ap, sym, subst, refl, arith}
use Rattle.std.proofs.lemmas.Option.{slice_get_within}
use Rattle.c5_rows.specs.Numbers.{is_among, numbers_from}
use Rattle.c5_definitions.specs.NumberLaws.{NumbersAreOwned}
use Rattle.c5_definitions.specs.Turns.{turn_start}
use Rattle.c5_board.specs.Boards.{Board, Pass, write_count, IsWorker}
use Rattle.c5_board.specs.First.{first_pass}
use Rattle.c5_board.specs.Loads.{AreLoads}
use Rattle.c5_board.specs.Passes.{floor_of}
use Rattle.c5_board.proofs.SetLemmas.{range_has}
use Rattle.c5_workers.specs.declared.worker.Worker.{Worker}
use Rattle.c5_workers.specs.Schedules.{OnlySchedules}
use Rattle.c5_workers.specs.Tries.{least_of}
use Rattle.c5_workers.specs.Work.{FitsWorker, IsNewWorker, FitsUnworked}
use Rattle.c5_replay.specs.Mirrors.{turns_of, Mirrors, IsTurning, HaveMissed}
use Rattle.c5_replay.proofs.TurnMissed.{missed-begin}
use Rattle.c5_replay.proofs.TurnRounds.{new_turns}

numbers-at : (a n k : ℕ) → k < n → get_or (numbers_from a n) k 0 ≡ a + k
numbers-at a zero k less = absurd (omega arith)
numbers-at a (suc n) zero less = omega arith
numbers-at a (suc n) (suc k) less = numbers-at (suc a) n k (omega arith)
    ∙ (let e : suc a + k ≡ a + suc k = omega arith in e)

new-workers : (a : ℕ) (workers : List Worker)
    → ((k : ℕ) (w : Worker) → slice_get workers k ≡ Some w → turns_of w ≡ new_turns (a + k))
    → map new_turns (numbers_from a (length workers)) ≡ map turns_of workers
new-workers a [] each = refl
new-workers a (w ∷ workers) each =
    (λ j. new_turns (first j) ∷ map new_turns (numbers_from (suc a) (length workers)))
    ∙ (λ j. sym (each 0 w refl) j ∷ new-workers (suc a) workers
    (λ k u at. each (suc k) u at
    ∙ ap new_turns (let e : a + suc k ≡ suc a + k = omega arith in e)) j)
  where
    first : a ≡ a + 0
    first = omega arith

-- new workers, each of its number
abbrev pub AreNew : Board → List Worker → Type 0
AreNew board workers = (k : ℕ) (w : Worker) → slice_get workers k ≡ Some w
    → IsNewWorker w (k + 1) board.workers × FitsUnworked w (k + 1) board.workers

module _ (board : Board) (p : Pass) (workers : List Worker) (h : OnlySchedules (first_pass board) p)
    (up : write_count board ≤ p.scheduled) (count : length workers ≡ board.workers)
    (new : AreNew board workers) where
  of_board : p.board ≡ board
  of_board = ap (λ (z : Pass). z.board) h.rest

  roles_so : p.roles ≡ numbers_from 1 board.workers
  roles_so = ap (λ (z : Pass). z.roles) h.rest

  none : p.installed ≡ []
  none = ap (λ (z : Pass). z.installed) h.rest

  has_role : (i : ℕ) → IsWorker board.workers i → is_among i p.roles ≡ true
  has_role i w = ap (is_among i) roles_so
      ∙ range_has i 1 board.workers w.0 (let x = w.1 in omega arith)

  fits : (k : ℕ) (w : Worker) → slice_get workers k ≡ Some w → FitsWorker w p
  fits k w at =
      let within = slice_get_within workers k w at in
      (new k w at).1 p (ap (λ (b : Board). b.workers) of_board)
      (has_role (k + 1) (omega arith, omega arith))
      (λ v owned. ap (is_among v) none)

  pub turning-begin : IsTurning board p workers
  turning-begin = record {
    of_board = of_board;
    roles = has_role;
    snapshot = ap (λ (z : Pass). z.snapshot) h.rest;
    scheduler = ap (λ (z : Pass). z.scheduler) h.rest;
    scheduled = up;
    each =
        record {
          count = count ∙ ap (λ (b : Board). b.workers) (sym of_board);
          order = λ k w at. (new k w at).0.worker;
          each = fits;
        };
    floors = λ k w at.
        let within = slice_get_within workers k w at in
        let is = (new k w at).0 in
        ap (λ (z : Pass). floor_of z (k + 1)) h.rest
        ∙ ap (λ (n : ℕ). get_or (numbers_from 1 board.workers) n 0)
        (let e : (k + 1) - 1 ≡ k = omega arith in e)
        ∙ numbers-at 1 board.workers k (omega arith)
        ∙ (let e : 1 + k ≡ k + 1 = omega arith in e)
        ∙ (λ j. least_of (sym is.none j) (sym is.next j));
  }

  pub mirrors-begin : Mirrors (turn_start board.workers) p workers 0
  mirrors-begin = record {
    done = sym none;
    workers_so = ap (λ (n : ℕ). map new_turns (numbers_from 1 n)) (sym count)
        ∙ new-workers 1 workers
        (λ k w at. (λ j. record {
          next = (new k w at).0.next j;
          waiting = (new k w at).0.none j;
        }) ∙ ap new_turns (let e : k + 1 ≡ 1 + k = omega arith in e));
    place = ap (λ (z : Pass). z.place) (sym h.rest);
    count = refl;
  }

  pub have-missed-none : NumbersAreOwned board.workers → HaveMissed p workers 0
  have-missed-none owners = missed-begin p workers
      (subst (λ (b : Board). NumbersAreOwned b.workers) (sym of_board) owners)
      (subst AreLoads (sym h.looks) h.loads)
      (count ∙ ap (λ (b : Board). b.workers) (sym of_board)) (λ k w at. (new k w at).0.next)
