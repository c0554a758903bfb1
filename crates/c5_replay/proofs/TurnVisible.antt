-- An advance of a pass with all roles is the machine's.
use Rattle.std.proofs.Common.{◌≡◌, ◌≢◌, ◌∙◌, ◌+◌, ◌-◌, ◌≤◌, ◌<◌, ◌==◌, ◌&&◌, ℕ, zero}
use Rattle.std.proofs.Common.{suc, Bool, true, false, not, List, [], ◌∷◌, length, cond, get_or}
use Rattle.std.proofs.Common.{Some, slice_get, ap, sym, subst, refl, arith, true≢false}
use Rattle.std.proofs.lemmas.List.{length-map}
use Rattle.std.proofs.lemmas.Option.{slice_get_within}
use borrow.Author.Tests.{eqb-true, eqb-false, eq-eqb, lt-ltb, ltb-true, ltb-false}
use lib.Dec.{eqb, ltb}
use Rattle.std.specs.List.{list_all}
use Rattle.c5_rows.specs.Numbers.{is_among, numbers_from}
use Rattle.c5_rows.specs.declared.writes.RowName.{RowName}
use Rattle.c5_rows.specs.declared.writes.Txn.{Txn}
use Rattle.c5_definitions.specs.NumberLaws.{NumbersAreOwned}
use Rattle.c5_definitions.specs.Searches.{greatest_below, least_up_to}
use Rattle.c5_definitions.specs.Turns.{TurnMachine, least_left, is_below_all_left}
use Rattle.c5_definitions.specs.Turns.{place_done, after_visible}
use Rattle.c5_definitions.specs.WriteNumbers.{names_in, owner_of, end_of, place_below}
use Rattle.c5_definitions.proofs.SearchLemmas.{least-passes, least-found}
use Rattle.c5_board.specs.Boards.{Board, Pass, names, write_count, IsWorker}
use Rattle.c5_board.specs.Passes.{IsSound, floor_of}
use Rattle.c5_board.specs.Sets.{number_of}
use Rattle.c5_snapshot.specs.Advances.{LoadsEachProgress, IsLeastOf, advanced}
use Rattle.c5_workers.specs.declared.worker.Worker.{Worker}
use Rattle.c5_workers.specs.Tries.{HasTried, least_of}
use Rattle.c5_workers.proofs.TryLemmas.{IsLeastLeft, least-left}
use Rattle.c5_replay.specs.Mirrors.{turns_of, Mirrors, IsTurning}
use Rattle.c5_replay.proofs.TurnWorks.{still-fits}

-- ---- searches

-- two tests that agree find the same
greatest-same : (f g : ℕ → Bool) (n : ℕ) → ((k : ℕ) → f k ≡ g k)
    → greatest_below f n ≡ greatest_below g n
greatest-same f g zero same = refl
greatest-same f g (suc n) same = λ j. cond (same n j) n (greatest-same f g n same j)

and_parts : (a b : Bool) → (a && b) ≡ true → (a ≡ true) × (b ≡ true)
and_parts true b h = (refl, h)
and_parts false b h = absurd (true≢false (sym h))

not_true : (a : Bool) → not a ≡ true → a ≡ true → ⊥
not_true true h e = true≢false (sym h)
not_true false h e = true≢false (sym e)

-- worker i owns w, which isn't done
abbrev is_left : ℕ → List ℕ → ℕ → ℕ → Bool
is_left workers done i w = (owner_of workers w == i) && not (is_among w done)

-- the least number of worker i that isn't done is what the machine's search finds
pub least-is : (workers writes i x : ℕ) (done : List ℕ) → x ≤ writes + workers
    → IsLeastLeft workers done i x → least_left workers writes done i ≡ x
least-is workers writes i x done within left =
    at (least_up_to (is_left workers done i) (writes + workers)) found.0 found.1
    (least-passes (is_left workers done i) (writes + workers)
    (λ z. let some = found.0 in omega arith))
  where
    passes : is_left workers done i x ≡ true
    passes = λ j. eq-eqb (owner_of workers x) i left.owned j && not (left.not_installed j)

    found : (1 ≤ least_up_to (is_left workers done i) (writes + workers))
        × (least_up_to (is_left workers done i) (writes + workers) ≤ x)
    found = least-found (is_left workers done i) (writes + workers) x left.positive within passes

    at : (l : ℕ) → 1 ≤ l → l ≤ x → is_left workers done i l ≡ true → l ≡ x
    at l some up h = by (ltb l x) refl
      where
        by : (b : Bool) → ltb l x ≡ b → l ≡ x
        by true e =
            let p = and_parts (owner_of workers l == i) (not (is_among l done)) h in
            absurd (not_true (is_among l done) p.1
            (left.least l some (ltb-true l x e) (eqb-true (owner_of workers l) i p.0)))
        by false e = let le = ltb-false l x e in omega arith

-- ---- tests of all workers

pub all-pass : (test : ℕ → Bool) (a n : ℕ) → ((i : ℕ) → a ≤ i → i < a + n → test i ≡ true)
    → list_all test (numbers_from a n) ≡ true
all-pass test a zero h = refl
all-pass test a (suc n) h = λ j. h a (omega arith) (omega arith) j
    && all-pass test (suc a) n (λ i low high. h i (omega arith) (omega arith)) j

-- the next number at least
pub above : (a i : ℕ) → a ≤ i → a ≢ i → suc a ≤ i
above a i low d = split (ltb a i) refl
  where
    split : (b : Bool) → ltb a i ≡ b → suc a ≤ i
    split true e = let l = ltb-true a i e in omega arith
    split false e = let l = ltb-false a i e in absurd (d (omega arith))

pub each-passes : (test : ℕ → Bool) (a n i : ℕ) → list_all test (numbers_from a n) ≡ true → a ≤ i
    → i < a + n → test i ≡ true
each-passes test a zero i h low high = absurd (omega arith)
each-passes test a (suc n) i h low high =
    let parts = and_parts (test a) (list_all test (numbers_from (suc a) n)) h in
    by (eqb a i) refl parts.0
    (λ more. each-passes test (suc a) n i parts.1 more (omega arith))
  where
    by : (b : Bool) → eqb a i ≡ b → test a ≡ true → (suc a ≤ i → test i ≡ true) → test i ≡ true
    by true e first rest = ap test (sym (eqb-true a i e)) ∙ first
    by false e first rest = rest (above a i low (eqb-false a i e))

false_from : (b : Bool) → (b ≡ true → ⊥) → b ≡ false
false_from true h = absurd (h refl)
false_from false h = refl

default : (xs : List ℕ) (k d e : ℕ) → k < length xs → get_or xs k d ≡ get_or xs k e
default [] k d e less = absurd (omega arith)
default (x ∷ xs) zero d e less = refl
default (x ∷ xs) (suc k) d e less = default xs k d e (omega arith)

-- a number is below that of each worker if it is below the least of them
below-all : (x : ℕ) (number : ℕ → ℕ) (floors : List ℕ) (workers least : ℕ)
    → length floors ≡ workers → ((i : ℕ) → IsWorker workers i → number i ≡ number_of floors i)
    → IsLeastOf least floors
    → list_all (λ i. ltb x (number i)) (numbers_from 1 workers) ≡ ltb x least
below-all x number floors workers least count each is = by (ltb x least) refl
  where
    by : (b : Bool) → ltb x least ≡ b
        → list_all (λ i. ltb x (number i)) (numbers_from 1 workers) ≡ b
    by true e =
        let less = ltb-true x least e in
        all-pass (λ i. ltb x (number i)) 1 workers
        (λ i low high.
        let same = each i (low, omega arith) in
        let above = is.not_above (i - 1) 0 (omega arith) in
        lt-ltb x (number i) (omega arith))
    by false e =
        let more = ltb-false x least e in
        let k = is.among.0 in
        let less : k < length floors = is.among.1 in
        let worker : IsWorker workers (k + 1) = (omega arith, omega arith) in
        let back : (k + 1) - 1 ≡ k = omega arith in
        let same : number (k + 1) ≡ least = each (k + 1) worker
        ∙ ap (λ (j : ℕ). get_or floors j 0) back ∙ default floors k 0 least less ∙ is.among.2 in
        false_from (list_all (λ i. ltb x (number i)) (numbers_from 1 workers))
        (λ h.
        let below = ltb-true x (number (k + 1))
        (each-passes (λ i. ltb x (number i)) 1 workers (k + 1) h (omega arith) (omega arith)) in
        omega arith)

-- the place below the least of all floors is that of the machine
pub visible-place : (txns : List Txn) (workers least : ℕ) (done floors : List ℕ)
    → length floors ≡ workers
    → ((i : ℕ) → IsWorker workers i
    → least_left workers (length (names_in txns)) done i ≡ number_of floors i)
    → IsLeastOf least floors → place_done txns workers done ≡ place_below txns least
unfolding place_done place_below
visible-place txns workers least done floors count each is =
    greatest-same (is_below_all_left txns workers done) (λ p. ltb (end_of txns p) least)
    (length txns + 1)
    (λ p. below-all (end_of txns p) (least_left workers (length (names_in txns)) done) floors
    workers least count each is)

-- ---- the pass

-- the pass has loaded, and made a place visible, and no floor has changed
pub turning-later : (board : Board) (p q : Pass) (workers : List Worker) → IsTurning board p workers
    → q ≡ record p {
      installed = q.installed;
      floors = q.floors;
      place = q.place;
      scheduled = q.scheduled;
      looks = q.looks;
    }
    → p.scheduled ≤ q.scheduled → q.installed ≡ p.installed
    → ((i : ℕ) → IsWorker board.workers i → floor_of q i ≡ floor_of p i)
    → IsTurning board q workers
turning-later board p q workers h is up same floors =
    let same_board : q.board ≡ p.board = ap (λ (z : Pass). z.board) is in
    let count : length workers ≡ board.workers =
    h.each.count ∙ ap (λ (b : Board). b.workers) h.of_board in
    record {
      of_board = same_board ∙ h.of_board;
      roles = λ i w. ap (λ (z : Pass). is_among i z.roles) is ∙ h.roles i w;
      snapshot = ap (λ (z : Pass). z.snapshot) is ∙ h.snapshot;
      scheduler = ap (λ (z : Pass). z.scheduler) is ∙ h.scheduler;
      scheduled = let a = h.scheduled in omega arith;
      each =
          record {
            count = h.each.count ∙ ap (λ (b : Board). b.workers) (sym same_board);
            order = h.each.order;
            each = λ k u at. still-fits u p q (h.each.each k u at) is up
                (λ v write owned. ap (is_among v) same);
          };
      floors = λ k u at.
          let within = slice_get_within workers k u at in
          floors (k + 1) (omega arith, omega arith) ∙ h.floors k u at;
    }

pub element_at : {X : Type 0} (xs : List X) (k : ℕ) → k < length xs
    → (x : X) × (slice_get xs k ≡ Some x)
element_at [] k less = absurd (omega arith)
element_at (x ∷ xs) zero less = (x, refl)
element_at (x ∷ xs) (suc k) less = element_at xs k (omega arith)

least-bound : (workers : ℕ) (ns : List RowName) (roles installed : List ℕ) (scheduled i next : ℕ)
    (list : List ℕ) → HasTried workers ns roles installed scheduled i next list
    → least_of list next ≤ length ns + workers
least-bound workers ns roles installed scheduled i next [] fits = fits.bound
least-bound workers ns roles installed scheduled i next (w ∷ list) fits =
    let within = fits.waiting.0.write.within in omega arith

-- a worker's floor is its least number that isn't done
floor-left : (board : Board) (p : Pass) (workers : List Worker) (i : ℕ)
    → NumbersAreOwned board.workers → IsSound p → IsTurning board p workers
    → IsWorker board.workers i
    → least_left board.workers (write_count board) p.installed i ≡ floor_of p i
floor-left board p workers i owners sound h w =
    let some = w.0 in
    let most = w.1 in
    let count : length workers ≡ board.workers =
    h.each.count ∙ ap (λ (b : Board). b.workers) h.of_board in
    let e = element_at workers (i - 1) (omega arith) in
    let u = e.0 in
    let back : (i - 1) + 1 ≡ i = omega arith in
    let number : u.i ≡ i = h.each.order (i - 1) u e.1 ∙ back in
    let fits = h.each.each (i - 1) u e.1 in
    let of = subst (λ (b : Board). NumbersAreOwned b.workers) (sym h.of_board) owners in
    let left = least-left p.board.workers
    (names p.board) p.roles p.installed p.scheduled u.i u.next u.put_off.items of fits.numbers
    (λ v done. (sound.installed v done).0) in
    let least = least_of u.put_off.items u.next in
    let is : least_left p.board.workers (write_count p.board) p.installed u.i ≡ least =
    least-is p.board.workers (write_count p.board) u.i least p.installed
    (least-bound p.board.workers
    (names p.board) p.roles p.installed p.scheduled u.i u.next u.put_off.items fits.numbers) left in
    let floor : floor_of p i ≡ least = ap (floor_of p) (sym back) ∙ h.floors (i - 1) u e.1 in
    subst (λ (b : Board). least_left b.workers (write_count b) p.installed i ≡ floor_of p i)
    h.of_board
    (ap (least_left p.board.workers (write_count p.board) p.installed) (sym number) ∙ is
    ∙ sym floor)

module _ (board : Board) (p q : Pass) (workers : List Worker) (least place : ℕ)
    (owners : NumbersAreOwned board.workers) (sound : IsSound p) (h : IsTurning board p workers)
    (is : q ≡ advanced p q.floors place) (loads : LoadsEachProgress p q)
    (finds : IsLeastOf least q.floors)
  where
    worker_of : (i : ℕ) → IsWorker board.workers i → IsWorker p.board.workers i
    worker_of i w = subst (λ (b : Board). IsWorker b.workers i) (sym h.of_board) w

    floor_kept : (i : ℕ) → IsWorker board.workers i → floor_of q i ≡ floor_of p i
    floor_kept i w = loads.own i (worker_of i w) (h.roles i w)

    installed_kept : q.installed ≡ p.installed
    installed_kept = ap (λ (z : Pass). z.installed) is

    -- an advance leaves the workers as they were
    pub visible-turning : p.scheduled ≤ q.scheduled → IsTurning board q workers
    visible-turning up = turning-later board p q workers h
        (is ∙ (λ j. record p {
          installed = ap (λ (z : Pass). z.installed) (sym is) j;
          floors = q.floors;
          place = ap (λ (z : Pass). z.place) (sym is) j;
          scheduled = ap (λ (z : Pass). z.scheduled) (sym is) j;
          looks = ap (λ (z : Pass). z.looks) (sym is) j;
        })) up installed_kept floor_kept

    -- an advance is the machine's
    pub visible-mirrored : (m : TurnMachine) (n : ℕ) → place ≡ place_below board.log.txns least
        → Mirrors m p workers n → Mirrors (after_visible board.log.txns m) q workers n
    visible-mirrored m n at mirrors =
        let count : length m.workers ≡ board.workers =
        ap length mirrors.workers_so ∙ length-map workers turns_of ∙ h.each.count
        ∙ ap (λ (b : Board). b.workers) h.of_board in
        record {
          done = mirrors.done ∙ sym installed_kept;
          workers_so = mirrors.workers_so;
          place = ap (λ (n : ℕ). place_done board.log.txns n m.done) count
              ∙ ap (place_done board.log.txns board.workers) mirrors.done
              ∙ visible-place board.log.txns board.workers least p.installed q.floors
              (loads.count ∙ ap (λ (b : Board). b.workers) h.of_board)
              (λ i w. floor-left board p workers i owners sound h w ∙ sym (floor_kept i w)) finds
              ∙ sym at ∙ ap (λ (z : Pass). z.place) (sym is);
          count = mirrors.count;
        }
