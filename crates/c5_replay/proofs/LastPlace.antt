-- The last place is visible if and only if each write is installed.
use Rattle.std.proofs.Common.{◌≡◌, ◌∙◌, ◌+◌, ◌-◌, ◌≤◌, ◌<◌, ◌&&◌, ◌==◌, ℕ, zero, suc, Bool, true}
use Rattle.std.proofs.Common.{false, cond, not, List, [], ◌∷◌, length, get_or, Some, slice_get}
use Rattle.std.proofs.Common.{nat_lt, ap, sym, subst, refl, arith, true≢false, lt_of_not-le}
use Rattle.std.specs.List.{list_all}
use Rattle.std.proofs.lemmas.Bool.{lt-ltb, le-ltb, ltb-true, ltb-false, eqb-true, eq-eqb}
use mathlib.Core.Logic.{dite}
use native.Mathlib.Decide.{dec_le}
use Rattle.c5_rows.specs.Numbers.{is_among, numbers_from}
use Rattle.c5_rows.specs.declared.writes.RowName.{RowName}
use Rattle.c5_rows.specs.declared.writes.Txn.{Txn}
use Rattle.c5_definitions.specs.NumberLaws.{PlacesEnd, NumbersAreOwned}
use Rattle.c5_definitions.specs.Turns.{is_all_done}
use Rattle.c5_definitions.specs.WriteNumbers.{names_in, end_of, place_below, owner_of, IsWrite}
use Rattle.c5_board.specs.Boards.{Board, Pass, names, write_count, IsWorker}
use Rattle.c5_board.specs.Passes.{floor_of}
use Rattle.c5_board.proofs.SetLemmas.{has-here, not_both, not_true}
use Rattle.c5_snapshot.specs.Advances.{IsLeastOf}
use Rattle.c5_workers.specs.declared.worker.Worker.{Worker}
use Rattle.c5_workers.specs.Finishing.{AreWorkersOf}
use Rattle.c5_workers.specs.Tries.{HasTried, IsWaiting, least_of}

-- ---- all numbers of a range

and-left : (a b : Bool) → (a && b) ≡ true → a ≡ true
and-left true b h = refl
and-left false b h = h

and-right : (a b : Bool) → (a && b) ≡ true → b ≡ true
and-right true b h = h
and-right false b h = absurd (true≢false (sym h))

pub all-each : (test : ℕ → Bool) (first n : ℕ) → list_all test (numbers_from first n) ≡ true
    → (w : ℕ) → first ≤ w → w < first + n → test w ≡ true
all-each test first zero all w low high = absurd (omega arith)
all-each test first (suc n) all w low high =
    dite (dec_le w first)
    (λ le.
    let same : w ≡ first = omega arith in
    ap test same ∙ and-left (test first) (list_all test (numbers_from (suc first) n)) all)
    (λ gt.
    let g = lt_of_not-le gt in
    all-each test (suc first) n
    (and-right (test first) (list_all test (numbers_from (suc first) n)) all) w (omega arith)
    (omega arith))

pub each-all : (test : ℕ → Bool) (first n : ℕ)
    → ((w : ℕ) → first ≤ w → w < first + n → test w ≡ true)
    → list_all test (numbers_from first n) ≡ true
each-all test first zero each = refl
each-all test first (suc n) each =
    ap (λ (b : Bool). b && list_all test (numbers_from (suc first) n))
    (each first (omega arith) (omega arith))
    ∙ each-all test (suc first) n (λ w low high. each w (omega arith) (omega arith))

-- ---- one worker

-- if nothing up to the last write is left, each write of the worker is installed
above-done : (workers : ℕ) (ns : List RowName) (roles installed : List ℕ)
    (scheduled i next : ℕ) (list : List ℕ)
    → HasTried workers ns roles installed scheduled i next list
    → length ns < least_of list next → (w : ℕ) → IsWrite ns w → owner_of workers w ≡ i
    → is_among w installed ≡ true
above-done workers ns roles installed scheduled i next [] h above w write owned =
    let high = write.within in
    h.done w write owned ∙ ap (λ (b : Bool). b && true) (lt-ltb w next (omega arith))
above-done workers ns roles installed scheduled i next (v ∷ list) h above w write owned =
    absurd (let e = h.waiting.0.write.within in omega arith)

-- and the other way round
done-above : (workers : ℕ) (ns : List RowName) (roles installed : List ℕ)
    (scheduled i next : ℕ) (list : List ℕ)
    → HasTried workers ns roles installed scheduled i next list
    → ((w : ℕ) → IsWrite ns w → is_among w installed ≡ true) → length ns < least_of list next
done-above workers ns roles installed scheduled i next [] h all =
    dite (dec_le next (length ns))
    (λ le.
    let write : IsWrite ns next = record { positive = h.positive; within = le } in
    let not_below : nat_lt next next ≡ false = le-ltb next next (omega arith) in
    let is : is_among next installed ≡ false =
    h.done next write h.owned ∙ ap (λ (b : Bool). b && true) not_below in
    absurd (not_both (is_among next installed) (all next write) is))
    (λ gt. lt_of_not-le gt)
done-above workers ns roles installed scheduled i next (v ∷ list) h all =
    let waiting = h.waiting.0 in
    let here : is_among v (v ∷ list) ≡ true = has-here v list in
    let below : nat_lt v next ≡ true = lt-ltb v next waiting.below in
    let is : is_among v installed ≡ false =
    h.done v waiting.write waiting.owned
    ∙ (λ t. below t && not (here t)) in
    absurd (not_both (is_among v installed) (all v waiting.write) is)

-- ---- all workers

worker-there : (workers : List Worker) (k : ℕ) → k < length workers
    → (w : Worker) × (slice_get workers k ≡ Some w)
worker-there [] k less = absurd (omega arith)
worker-there (w ∷ workers) zero less = (w, refl)
worker-there (w ∷ workers) (suc k) less = worker-there workers k (omega arith)

pub default : (xs : List ℕ) (k d e : ℕ) → k < length xs → get_or xs k d ≡ get_or xs k e
default [] k d e less = absurd (omega arith)
default (x ∷ xs) zero d e less = refl
default (x ∷ xs) (suc k) d e less = default xs k d e (omega arith)

module _ (q : Pass) (workers : List Worker) (least : ℕ) (are : AreWorkersOf q workers)
    (floors : (k : ℕ) (w : Worker) → slice_get workers k ≡ Some w
    → floor_of q (k + 1) ≡ least_of w.put_off.items w.next)
    (count : length q.floors ≡ q.board.workers) (is : IsLeastOf least q.floors)
    (numbers : NumbersAreOwned q.board.workers) (places : PlacesEnd q.board.log.txns) where
  above-all : write_count q.board < least → (w : ℕ) → IsWrite (names q.board) w
      → is_among w q.installed ≡ true
  above-all above w write =
      let some = numbers.some w in
      let most = numbers.worker w in
      let len = are.count in
      let k : ℕ = owner_of q.board.workers w - 1 in
      let there = worker-there workers k (omega arith) in
      let u = there.0 in
      let own : owner_of q.board.workers w ≡ u.i =
      (let o = are.order k u there.1 in omega arith) in
      let back : (k + 1) - 1 ≡ k = omega arith in
      let low : least ≤ get_or q.floors k 0 = is.not_above k 0 (omega arith) in
      let floor : get_or q.floors k 0 ≡ least_of u.put_off.items u.next =
      ap (λ (j : ℕ). get_or q.floors j 0) (sym back) ∙ floors k u there.1 in
      above-done q.board.workers (names q.board) q.roles q.installed q.scheduled u.i u.next
      u.put_off.items (are.each k u there.1).numbers (omega arith) w write own

  all-above : ((w : ℕ) → IsWrite (names q.board) w → is_among w q.installed ≡ true)
      → write_count q.board < least
  all-above all =
      let k = is.among.0 in
      let less : k < length q.floors = is.among.1 in
      let len = are.count in
      let there = worker-there workers k (omega arith) in
      let u = there.0 in
      let back : (k + 1) - 1 ≡ k = omega arith in
      let floor : get_or q.floors k 0 ≡ least_of u.put_off.items u.next =
      ap (λ (j : ℕ). get_or q.floors j 0) (sym back) ∙ floors k u there.1 in
      let same : get_or q.floors k 0 ≡ least = default q.floors k 0 least less ∙ is.among.2 in
      let above =
      done-above q.board.workers (names q.board) q.roles q.installed q.scheduled u.i u.next
      u.put_off.items (are.each k u there.1).numbers all in
      omega arith

  abbrev pub txns : List Txn
  txns = q.board.log.txns

  last-above : 1 ≤ least → place_below txns least ≡ length txns → write_count q.board < least
  last-above some last =
      let below = places.below least some in
      let ends : end_of txns (place_below txns least) ≡ write_count q.board =
      ap (end_of txns) last ∙ places.all in
      omega arith

  pub above-last : write_count q.board < least → place_below txns least ≡ length txns
  above-last above =
      let ends : end_of txns (length txns) ≡ write_count q.board = places.all in
      let up = places.greatest least (length txns) (omega arith) (omega arith) in
      let down = places.place least in
      omega arith

  all-done : write_count q.board < least
      → is_all_done (write_count q.board) q.installed ≡ true
  all-done above =
      each-all (λ w. is_among w q.installed) 1 (write_count q.board)
      (λ w low high. above-all above w (record { positive = low; within = omega arith }))

  done-all : is_all_done (write_count q.board) q.installed ≡ true
      → write_count q.board < least
  done-all all =
      all-above (λ w write. all-each (λ v. is_among v q.installed) 1 (write_count q.board) all w
      write.positive (let h = write.within in omega arith))

  pub test-so : 1 ≤ least → (b : Bool) → (place_below txns least == length txns) ≡ b
      → b ≡ is_all_done (write_count q.board) q.installed
  test-so some true e =
      sym (all-done (last-above some (eqb-true (place_below txns least) (length txns) e)))
  test-so some false e =
      sym (not_true (is_all_done (write_count q.board) q.installed)
      (λ t. not_both (place_below txns least == length txns)
      (eq-eqb (place_below txns least) (length txns) (above-last (done-all t))) e))

  pub last-so : is_all_done (write_count q.board) q.installed ≡ true
      → place_below txns least ≡ length txns
  last-so all = above-last (done-all all)

-- each write is among those that are all done
pub done-each : (n : ℕ) (done : List ℕ) (ns : List RowName) → n ≡ length ns
    → is_all_done n done ≡ true → (w : ℕ) → IsWrite ns w → is_among w done ≡ true
done-each n done ns same all w write =
    all-each (λ v. is_among v done) 1 n all w write.positive
    (let h = write.within in omega arith)
