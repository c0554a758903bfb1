-- A worker after a try, a load and a store.
use Rattle.std.proofs.Common.{◌≡◌, ◌∙◌, ◌+◌, ◌≤◌, ◌&&◌, ℕ, Bool, true, false, List, [], ◌∷◌, length}
use Rattle.std.proofs.Common.{ap, sym, subst, refl, arith}
use borrow.Author.Tests.{ltb-true}
use lib.Dec.{ltb}
use Rattle.std.specs.Prelude.{vec_capacity}
use Rattle.std.specs.List.{AllByRecursion}
use Rattle.c5_rows.specs.declared.writes.RowName.{RowName}
use Rattle.c5_definitions.specs.WriteNumbers.{owner_of, IsWrite}
use Rattle.c5_definitions.specs.NumberLaws.{NumbersAreOwned}
use Rattle.c5_rows.specs.Numbers.{is_among}
use Rattle.c5_board.specs.Boards.{Board, Pass, names, write_count, IsWorker}
use Rattle.c5_board.specs.Passes.{IsSound, IsOutstanding, owner_in}
use Rattle.c5_chains.specs.declared.install.Install.{Install}
use Rattle.c5_chains.specs.Tries.{after_try, head_found, IsCaused}
use Rattle.c5_workers.specs.declared.worker.Worker.{Worker}
use Rattle.c5_workers.specs.Tries.{IsWaiting, FitsList, Tries, least_of, with_next}
use Rattle.c5_workers.specs.Work.{FitsWorker, IsNewWorker, with_scheduled, with_progress}
use Rattle.c5_workers.proofs.TryLemmas.{next-fits, least-left}

-- the same numbers and list of another value of a worker
pub list-of : (i j next later : ℕ) (list other : List ℕ) (q : Pass) → i ≡ j → next ≡ later
    → list ≡ other → FitsList i next list q → FitsList j later other q
list-of i j next later list other q a b c fits =
    subst (λ (l : List ℕ). FitsList j later l q) c
    (subst (λ (n : ℕ). FitsList j n list q) b (subst (λ (k : ℕ). FitsList k next list q) a fits))

-- the next number was tried
pub worker-next : (w after : Worker) (p q : Pass) (result : Install)
    → NumbersAreOwned p.board.workers → FitsWorker w p → w.next ≤ p.scheduled
    → p.scheduled ≤ write_count p.board → IsCaused p w.next result
    → q ≡ after_try p w.next (head_found (names p.board) w.next result) → after.i ≡ w.i
    → after.workers ≡ w.workers → after.next ≡ w.next + w.workers
    → after.put_off.items ≡ with_next w.put_off.items w.next result
    → length after.put_off.items ≤ 64 → 64 ≤ vec_capacity after.put_off → FitsWorker after q
worker-next w after p q result owners fits up_to most put is i workers next list few room =
    let board : q.board ≡ p.board = ap (λ (x : Pass). x.board) is in
    let positive = fits.numbers.positive in
    let write : IsWrite (names p.board) w.next =
    record { positive = positive; within = omega arith } in
    record {
      workers = workers ∙ fits.workers ∙ ap (λ (b : Board). b.workers) (sym board);
      worker = (let a = fits.worker.0 in omega arith, let a = fits.worker.1 in omega arith);
      few_workers = omega (arith, fits.few_workers);
      numbers = list-of w.i after.i (w.next + p.board.workers) after.next
          (with_next w.put_off.items w.next result) after.put_off.items q (sym i)
          (ap (λ (n : ℕ). w.next + n) (sym fits.workers) ∙ sym next) (sym list)
          (next-fits p q w.i w.next w.put_off.items result owners fits.numbers write up_to put is);
      few = few;
      room = room;
    }

later-all : (workers : ℕ) (ns : List RowName) (scheduled x i next : ℕ) (list : List ℕ)
    → scheduled ≤ x → AllByRecursion (IsWaiting workers ns scheduled i next) list
    → AllByRecursion (IsWaiting workers ns x i next) list
later-all workers ns scheduled x i next [] up h = tt
later-all workers ns scheduled x i next (w ∷ list) up h =
    let f = h.0 in let s = f.scheduled_so in (
      record { write = f.write; owned = f.owned; below = f.below; scheduled_so = omega arith },
      later-all workers ns scheduled x i next list up h.1,
    )

-- what is scheduled has risen
pub worker-later : (w : Worker) (p q : Pass) (x : ℕ) → FitsWorker w p → p.scheduled ≤ x
    → q ≡ with_scheduled p x → FitsWorker w q
worker-later w p q x fits up is =
    let n = fits.numbers in
    let fit : FitsWorker w (with_scheduled p x) = record {
      workers = fits.workers;
      worker = fits.worker;
      few_workers = fits.few_workers;
      few = fits.few;
      room = fits.room;
      numbers =
          record {
            role = n.role;
            positive = n.positive;
            owned = n.owned;
            bound = n.bound;
            ascends = n.ascends;
            done = n.done;
            waiting =
                later-all p.board.workers
                (names p.board) p.scheduled x w.i w.next w.put_off.items up n.waiting;
          };
    } in
    subst (FitsWorker w) (sym is) fit

pub worker-stored : (w : Worker) (p q : Pass) (x : ℕ) → FitsWorker w p → q ≡ with_progress p w.i x
    → FitsWorker w q
worker-stored w p q x fits is =
    let fit : FitsWorker w (with_progress p w.i x) =
    record {
      workers = fits.workers;
      worker = fits.worker;
      few_workers = fits.few_workers;
      numbers = fits.numbers;
      few = fits.few;
      room = fits.room;
    } in
    subst (FitsWorker w) (sym is) fit

-- the same numbers and another list
pub worker-with : (w after : Worker) (p q : Pass) → FitsWorker w p → q.board ≡ p.board
    → after.i ≡ w.i → after.workers ≡ w.workers → after.next ≡ w.next
    → FitsList w.i w.next after.put_off.items q
    → length after.put_off.items ≤ length w.put_off.items
    → 64 ≤ vec_capacity after.put_off → FitsWorker after q
worker-with w after p q fits board i workers next list few room =
    let some = fits.worker in
    let most = fits.few in
    record {
      workers = workers ∙ fits.workers ∙ ap (λ (b : Board). b.workers) (sym board);
      worker = (let a = some.0 in omega arith, let a = some.1 in omega arith);
      few_workers = omega (arith, fits.few_workers);
      numbers = list-of w.i after.i w.next after.next after.put_off.items after.put_off.items q
          (sym i) (sym next) refl list;
      few = omega arith;
      room = room;
    }

-- tries leave the board and what is scheduled
pub tries-keep : (p q : Pass) (list : List ℕ) (results : List Install) → Tries p q list results
    → (q.board ≡ p.board) × (q.scheduled ≡ p.scheduled)
tries-keep p q [] [] h = (ap (λ (x : Pass). x.board) h, ap (λ (x : Pass). x.scheduled) h)
tries-keep p q [] (r ∷ results) h = absurd h
tries-keep p q (w ∷ list) [] h = absurd h
tries-keep p q (w ∷ list) (r ∷ results) h =
    tries-keep (after_try p w (head_found (names p.board) w r)) q list results h.1

-- the least number that isn't installed
pub outstanding : (w : Worker) (p : Pass) → NumbersAreOwned p.board.workers → IsSound p
    → FitsWorker w p → IsOutstanding p w.i (least_of w.put_off.items w.next)
outstanding w p owners sound fits =
    let left = least-left p.board.workers
    (names p.board) p.roles p.installed p.scheduled w.i w.next w.put_off.items owners
    fits.numbers (λ v h. (sound.installed v h).0) in
    record {
      positive = left.positive;
      owned = left.owned;
      not_installed = left.not_installed;
      least = left.least;
    }

-- a new worker
pub fits-unworked : (w : Worker) (p : Pass) (i workers : ℕ) → NumbersAreOwned workers
    → IsWorker workers i → workers ≤ 16 → IsNewWorker w i workers → p.board.workers ≡ workers
    → is_among i p.roles ≡ true → ((v : ℕ) → owner_in p v ≡ i → is_among v p.installed ≡ false)
    → FitsWorker w p
fits-unworked w p i workers owners worker few new of role none =
    let list : FitsList i i [] p = record {
      role = role;
      positive = worker.0;
      owned = subst (λ (n : ℕ). owner_of n i ≡ i) (sym of) (owners.own i worker.0 worker.1);
      bound = let a = worker.1 in omega arith;
      waiting = tt;
      ascends = tt;
      done = λ v write owned. none v owned ∙
          (λ j. sym (not_below v write.positive (subst (λ (n : ℕ). owner_of n v ≡ i) of owned)) j
          && true);
    } in
    let is_i = new.worker in
    let is_n = new.of_workers in
    record {
      workers = new.of_workers ∙ sym of;
      worker = (let a = worker.0 in omega arith, let a = worker.1 in omega arith);
      few_workers = omega arith;
      numbers = list-of i w.i i w.next [] w.put_off.items p (sym new.worker) (sym new.next)
          (sym new.none) list;
      few = omega (arith, ap length new.none);
      room = new.room;
    }
  where
    not_below : (v : ℕ) → 1 ≤ v → owner_of workers v ≡ i → ltb v i ≡ false
    not_below v some owned = by (ltb v i) refl
      where
        by : (t : Bool) → ltb v i ≡ t → ltb v i ≡ false
        by true e =
            let less = ltb-true v i e in
            let a = worker.1 in
            let own = owners.own v some (omega arith) in
            absurd (omega arith)
        by false e = e
