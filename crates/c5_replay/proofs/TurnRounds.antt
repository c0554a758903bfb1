-- Rounds of the machine make all writes done.
use Rattle.std.proofs.Common.{◌≡◌, ◌≢◌, ◌∙◌, ◌+◌, ◌≤◌, ◌<◌, ◌&&◌, ◌⊎◌, inl, inr, ℕ}
use Rattle.std.proofs.Common.{zero, suc, Bool, true, false, List, [], ◌∷◌, length, map, cond}
use Rattle.std.proofs.Common.{Option, Some, None, slice_get, ap, sym, subst, refl, arith}
use Rattle.std.proofs.Common.{true≢false, length-set}
use Rattle.std.proofs.lemmas.List.{length-map}
use Rattle.std.proofs.lemmas.Option.{slice_get_within, slice_get-map}
use borrow.Author.Tests.{eqb-true, eqb-false, ltb-true, ltb-false}
use lib.Dec.{eqb, ltb}
use Rattle.std.specs.List.{AllByRecursion}
use Rattle.std.specs.Option.{option_map}
use Rattle.c5_rows.specs.Numbers.{is_among, numbers_from}
use Rattle.c5_rows.specs.declared.writes.RowName.{RowName}
use Rattle.c5_rows.specs.declared.writes.Txn.{Txn}
use Rattle.c5_definitions.specs.NumberLaws.{NumbersAreOwned, PredecessorsAreLast}
use Rattle.c5_definitions.specs.ScriptParts.{ReadParts}
use Rattle.c5_definitions.specs.declared.script.TurnWord.{TurnWord}
use Rattle.c5_definitions.specs.declared.script.TurnWord.TheVariants as words
use Rattle.c5_definitions.specs.Replies.{reads_of_session}
use Rattle.c5_definitions.specs.Turns.{TurnMachine, WorkerTurns, turn_start}
use Rattle.c5_definitions.specs.Turns.{after_worker_at, after_worker_turn, after_visible}
use Rattle.c5_definitions.specs.Turns.{after_session_at, after_session, after_word, after_words}
use Rattle.c5_definitions.specs.Turns.{after_worker_turns, after_round, is_all_done, after_rounds}
use Rattle.c5_definitions.specs.Turns.{after_closing}
use Rattle.c5_definitions.specs.WriteNumbers.{names_in, owner_of, IsWrite}
use Rattle.c5_board.specs.Boards.{Board, Pass, names, write_count}
use Rattle.c5_board.specs.Passes.{IsSound}
use Rattle.c5_board.proofs.SetLemmas.{range_has}
use Rattle.c5_workers.specs.declared.worker.Worker.{Worker}
use Rattle.c5_workers.specs.Tries.{IsWaiting, HasTried}
use Rattle.c5_workers.specs.Work.{FitsWorker}
use Rattle.c5_definitions.proofs.NumberLemmas.{numbers_are_owned, predecessors_are_last}
use Rattle.c5_replay.specs.TurnReplays.{RoundsSuffice}
use Rattle.c5_replay.specs.Mirrors.{turns_of, Mirrors, IsTurning, IsMachine}
use Rattle.c5_replay.proofs.TurnMissed.{none-below}
use Rattle.c5_replay.proofs.TurnVisible.{above, all-pass, element_at}
use Rattle.c5_replay.proofs.TurnWorks.{IsElsewhere, at_set}
use Rattle.c5_replay.proofs.TurnMachines.{IsMore, HasTurned, AreDoneBelow, turn-turned, turn-makes}

-- ---- a worker's turn

-- what is done by others leaves a worker
tried-still : (workers : ℕ) (ns : List RowName) (roles before after : List ℕ)
    (scheduled i k next : ℕ) (list : List ℕ)
    → HasTried workers ns roles before scheduled i next list → IsMore workers ns k before after
    → i ≢ k → HasTried workers ns roles after scheduled i next list
tried-still workers ns roles before after scheduled i k next list fits more apart = record {
  role = fits.role;
  positive = fits.positive;
  owned = fits.owned;
  bound = fits.bound;
  waiting = fits.waiting;
  ascends = fits.ascends;
  done = λ v write owned. more.others v (λ e. apart (sym owned ∙ e)) ∙ fits.done v write owned;
}

module _ (workers : ℕ) (ns : List RowName) (m n : TurnMachine) (k : ℕ) (h : IsMachine workers ns m)
    (less : k < workers) (turned : HasTurned workers ns m n k) where
  place_less : k < length m.workers
  place_less = let count = h.count in omega arith

  each : (j : ℕ) (t : WorkerTurns) → ((j ≡ k) × (t ≡ turned.t)) ⊎ IsElsewhere m.workers k j t
      → HasTried workers ns (numbers_from 1 workers) n.done (length ns) (j + 1) t.next t.waiting
  each j t (inl e) =
      subst (λ (i : ℕ). HasTried workers ns (numbers_from 1 workers) n.done (length ns) (i + 1)
      t.next t.waiting) (sym e.0)
      (subst (λ (u : WorkerTurns). HasTried workers ns (numbers_from 1 workers) n.done (length ns)
      (k + 1) u.next u.waiting) (sym e.1) turned.fits)
  each j t (inr e) =
      tried-still workers ns (numbers_from 1 workers) m.done n.done (length ns) (j + 1) (k + 1)
      t.next t.waiting (h.each j t e.there) turned.more
      (λ s. e.apart (let d : j ≡ k = omega arith in d))

  machine-turned : IsMachine workers ns n
  machine-turned = record {
    count = ap length turned.workers_so ∙ length-set m.workers k turned.t ∙ h.count;
    writes = turned.more.writes h.writes;
    each = λ j t there. each j t (at_set m.workers k j turned.t t place_less
        (ap (λ (l : List WorkerTurns). slice_get l j) (sym turned.workers_so) ∙ there));
  }

-- ---- a round

-- what the turns of workers from a on come to
record HasMade (workers : ℕ) (ns : List RowName) (m n : TurnMachine) (a count : ℕ) : Type 0 where
  machine : IsMachine workers ns n
  kept : (v : ℕ) → is_among v m.done ≡ true → is_among v n.done ≡ true
  made : (x : ℕ) → IsWrite ns x → a ≤ owner_of workers x → owner_of workers x < a + count
      → AreDoneBelow ns m.done x → is_among x n.done ≡ true

turns-made : (workers : ℕ) (ns : List RowName) (m : TurnMachine) (a count : ℕ)
    → NumbersAreOwned workers → PredecessorsAreLast ns → IsMachine workers ns m → 1 ≤ a
    → a + count ≤ workers + 1
    → HasMade workers ns m (after_worker_turns ns m (numbers_from a count)) a count
unfolding after_worker_turns
turns-made workers ns m a zero owners law h some most = record {
  machine = h;
  kept = λ v e. e;
  made = λ x write low high below. absurd (omega arith);
}
turns-made workers ns m zero (suc count) owners law h some most = absurd (omega arith)
turns-made workers ns m (suc k) (suc count) owners law h some most =
    let len = h.count in
    let less : k < workers = omega arith in
    let e = element_at m.workers k (omega arith) in
    let turned = turn-turned workers ns m k e.0 owners h e.1 in
    let next = after_worker_turn ns m (suc k) in
    let rest = turns-made workers ns next (suc (suc k)) count owners law
    (machine-turned workers ns m next k h less turned) (omega arith) (omega arith) in
    record {
      machine = rest.machine;
      kept = λ v d. rest.kept v (turned.more.kept v d);
      made = λ x write low high below. by x (eqb (suc k) (owner_of workers x)) refl low
          (λ is. rest.kept x (turn-makes workers ns m k e.0 owners h e.1 x law write
          (let s : owner_of workers x ≡ k + 1 = omega arith in s) below))
          (λ up. rest.made x write up (omega arith)
          (λ w is l. turned.more.kept w (below w is l)));
    }
  where
    by : (x : ℕ) (b : Bool) → eqb (suc k) (owner_of workers x) ≡ b → suc k ≤ owner_of workers x
        → (suc k ≡ owner_of workers x → is_among x (after_worker_turns ns
        (after_worker_turn ns m (suc k)) (numbers_from (suc (suc k)) count)).done ≡ true)
        → (suc (suc k) ≤ owner_of workers x → is_among x (after_worker_turns ns
        (after_worker_turn ns m (suc k)) (numbers_from (suc (suc k)) count)).done ≡ true)
        → is_among x (after_worker_turns ns
        (after_worker_turn ns m (suc k)) (numbers_from (suc (suc k)) count)).done ≡ true
    by x true e low here later = here (eqb-true (suc k) (owner_of workers x) e)
    by x false e low here later =
        later (above (suc k) (owner_of workers x) low (eqb-false (suc k) (owner_of workers x) e))

-- an advance leaves what is done and the workers
visible-machine : (workers : ℕ) (txns : List Txn) (ns : List RowName) (m : TurnMachine)
    → IsMachine workers ns m → IsMachine workers ns (after_visible txns m)
visible-machine workers txns ns m h =
    record { count = h.count; writes = h.writes; each = h.each }

round-made : (workers : ℕ) (txns : List Txn) (m : TurnMachine) → NumbersAreOwned workers
    → PredecessorsAreLast (names_in txns) → IsMachine workers (names_in txns) m
    → HasMade workers (names_in txns) m (after_round txns m) 1 workers
round-made workers txns m owners law h =
    let turns = after_worker_turns (names_in txns) m (numbers_from 1 (length m.workers)) in
    let made : HasMade workers (names_in txns) m turns 1 workers =
    subst (λ (n : ℕ). HasMade workers (names_in txns) m
    (after_worker_turns (names_in txns) m (numbers_from 1 n)) 1 workers) (sym h.count)
    (turns-made workers (names_in txns) m 1 workers owners law h (omega arith) (omega arith)) in
    record {
      machine = visible-machine workers txns (names_in txns) turns made.machine;
      kept = made.kept;
      made = made.made;
    }

-- a round makes the least number that isn't done done
round-below : (workers : ℕ) (txns : List Txn) (m : TurnMachine) (x : ℕ) → NumbersAreOwned workers
    → PredecessorsAreLast (names_in txns) → IsMachine workers (names_in txns) m
    → AreDoneBelow (names_in txns) m.done x
    → AreDoneBelow (names_in txns) (after_round txns m).done (x + 1)
round-below workers txns m x owners law h below w write up = by (ltb w x) refl
  where
    made : HasMade workers (names_in txns) m (after_round txns m) 1 workers
    made = round-made workers txns m owners law h

    by : (b : Bool) → ltb w x ≡ b → is_among w (after_round txns m).done ≡ true
    by true e = made.kept w (below w write (ltb-true w x e))
    by false e =
        let high = ltb-false w x e in
        let most = owners.worker w in
        made.made w write (owners.some w) (omega arith)
        (λ v is less. below v is (omega arith))

-- ---- rounds

all-done-from : (ns : List RowName) (done : List ℕ) (x : ℕ) → length ns < x
    → AreDoneBelow ns done x → is_all_done (length ns) done ≡ true
all-done-from ns done x high below = all-pass (λ w. is_among w done) 1 (length ns)
    (λ w low up. below w (record { positive = low; within = omega arith }) (omega arith))

rounds-made : (workers : ℕ) (txns : List Txn) (m : TurnMachine) (most x : ℕ)
    → NumbersAreOwned workers → PredecessorsAreLast (names_in txns)
    → IsMachine workers (names_in txns) m → AreDoneBelow (names_in txns) m.done x → 1 ≤ most
    → length (names_in txns) < x + most
    → is_all_done (length (names_in txns)) (after_rounds txns m most).done ≡ true
unfolding after_rounds
rounds-made workers txns m zero x owners law h below some high = absurd (omega arith)
rounds-made workers txns m (suc most) x owners law h below some high =
    by (is_all_done (length (names_in txns)) (after_round txns m).done) refl
    (λ more. rounds-made workers txns (after_round txns m) most (x + 1) owners law
    (round-made workers txns m owners law h).machine
    (round-below workers txns m x owners law h below) more (omega arith))
  where
    -- if this wasn't the last round there is another
    another : is_all_done (length (names_in txns)) (after_round txns m).done ≡ false
        → (b : Bool) → ltb (length (names_in txns)) (x + 1) ≡ b → 1 ≤ most
    another not_all true e = absurd (true≢false (sym
        (all-done-from (names_in txns) (after_round txns m).done (x + 1)
        (ltb-true (length (names_in txns)) (x + 1) e)
        (round-below workers txns m x owners law h below)) ∙ not_all))
    another not_all false e =
        let low = ltb-false (length (names_in txns)) (x + 1) e in omega arith

    by : (b : Bool) → is_all_done (length (names_in txns)) (after_round txns m).done ≡ b
        → (1 ≤ most
        → is_all_done (length (names_in txns)) (after_rounds txns (after_round txns m) most).done
        ≡ true)
        → is_all_done (length (names_in txns))
        (cond b (after_round txns m) (after_rounds txns (after_round txns m) most)).done ≡ true
    by true e more = e
    by false e more = more (another e (ltb (length (names_in txns)) (x + 1)) refl)

-- one round more than there are writes is enough
pub closing-made : (workers : ℕ) (txns : List Txn) (m : TurnMachine) → NumbersAreOwned workers
    → PredecessorsAreLast (names_in txns) → IsMachine workers (names_in txns) m
    → is_all_done (length (names_in txns)) (after_closing txns m).done ≡ true
closing-made workers txns m owners law h =
    rounds-made workers txns m (length (names_in txns) + 1) 1 owners law h
    (λ w write low. let some = write.positive in absurd (omega arith)) (omega arith) (omega arith)

-- ---- mirrored machines

some-from : (f : Worker → WorkerTurns) (o : Option Worker) (t : WorkerTurns)
    → option_map f o ≡ Some t → (u : Worker) × (o ≡ Some u) × (f u ≡ t)
some-from f None t e = absurd (cc)
some-from f (Some u) t e = (u, refl, cc)

waiting-all : (workers : ℕ) (ns : List RowName) (scheduled i next : ℕ) (list : List ℕ)
    → AllByRecursion (IsWaiting workers ns scheduled i next) list
    → AllByRecursion (IsWaiting workers ns (length ns) i next) list
waiting-all workers ns scheduled i next [] h = tt
waiting-all workers ns scheduled i next (w ∷ list) h = let f = h.0 in (
  record { write = f.write; owned = f.owned; below = f.below; scheduled_so = f.write.within },
  waiting-all workers ns scheduled i next list h.1,
)

-- a worker that fits the pass is one of a machine
fits-machine : (p : Pass) (u : Worker) (k : ℕ) → FitsWorker u p → u.i ≡ k + 1
    → HasTried p.board.workers (names p.board) (numbers_from 1 p.board.workers) p.installed
    (write_count p.board) (k + 1) u.next u.put_off.items
fits-machine p u k fits number =
    let f = fits.numbers in
    let some = fits.worker.0 in
    let most = fits.worker.1 in
    let workers = fits.workers in
    subst (λ (i : ℕ). HasTried p.board.workers (names p.board) (numbers_from 1 p.board.workers)
    p.installed (write_count p.board) i u.next u.put_off.items) number
    (record {
      role = range_has u.i 1 p.board.workers some (omega arith);
      positive = f.positive;
      owned = f.owned;
      bound = f.bound;
      waiting =
          waiting-all p.board.workers (names p.board) p.scheduled u.i u.next u.put_off.items
          f.waiting;
      ascends = f.ascends;
      done = f.done;
    })

pub mirrors-machine : (board : Board) (p : Pass) (workers : List Worker) (m : TurnMachine) (n : ℕ)
    → IsSound p → IsTurning board p workers → Mirrors m p workers n
    → IsMachine board.workers (names board) m
mirrors-machine board p workers m n sound h mirrors =
    subst (λ (b : Board). IsMachine b.workers (names b) m) h.of_board
    (record {
      count = ap length mirrors.workers_so ∙ length-map workers turns_of ∙ h.each.count;
      writes = λ w done. (sound.installed w (ap (is_among w) (sym mirrors.done) ∙ done)).0;
      each = λ k t at. each k t
          (some-from turns_of (slice_get workers k) t
          (sym (slice_get-map turns_of workers k)
          ∙ ap (λ (l : List WorkerTurns). slice_get l k) (sym mirrors.workers_so) ∙ at));
    })
  where
    each : (k : ℕ) (t : WorkerTurns)
        → (u : Worker) × (slice_get workers k ≡ Some u) × (turns_of u ≡ t)
        → HasTried p.board.workers (names p.board) (numbers_from 1 p.board.workers) m.done
        (write_count p.board) (k + 1) t.next t.waiting
    each k t (u, e, is) =
        subst (λ (l : List ℕ). HasTried p.board.workers (names p.board)
        (numbers_from 1 p.board.workers) l (write_count p.board) (k + 1) t.next t.waiting)
        (sym mirrors.done)
        (subst (λ (x : WorkerTurns). HasTried p.board.workers (names p.board)
        (numbers_from 1 p.board.workers) p.installed (write_count p.board) (k + 1) x.next x.waiting)
        is (fits-machine p u k (h.each.each k u e) (h.each.order k u e)))

-- closing rounds of a mirrored machine make all writes done
pub mirrored-closing : (board : Board) (p : Pass) (workers : List Worker) (m : TurnMachine) (n : ℕ)
    → NumbersAreOwned board.workers → PredecessorsAreLast (names board) → IsSound p
    → IsTurning board p workers → Mirrors m p workers n
    → is_all_done (write_count board) (after_closing board.log.txns m).done ≡ true
mirrored-closing board p workers m n owners law sound h mirrors =
    closing-made board.workers board.log.txns m owners law
    (mirrors-machine board p workers m n sound h mirrors)

-- ---- all schedules

abbrev pub new_turns : ℕ → WorkerTurns
new_turns i = record { next = i; waiting = [] }

at_numbers : (a n k : ℕ) (t : WorkerTurns)
    → slice_get (map new_turns (numbers_from a n)) k ≡ Some t → (t ≡ new_turns (a + k)) × (k < n)
at_numbers a zero k t e = absurd (cc)
at_numbers a (suc n) zero t e =
    let same : new_turns a ≡ t = cc in
    (sym same ∙ ap new_turns (let e : a ≡ a + 0 = omega arith in e), omega arith)
at_numbers a (suc n) (suc k) t e =
    let rest = at_numbers (suc a) n k t e in (
      rest.0 ∙ ap new_turns (let e : suc a + k ≡ a + suc k = omega arith in e),
      let l = rest.1 in omega arith,
    )

length-numbers : (a n : ℕ) → length (numbers_from a n) ≡ n
length-numbers a zero = refl
length-numbers a (suc n) = ap suc (length-numbers (suc a) n)

pub start-machine : (workers : ℕ) (ns : List RowName) → NumbersAreOwned workers
    → IsMachine workers ns (turn_start workers)
start-machine workers ns owners = record {
  count = length-map (numbers_from 1 workers) new_turns ∙ length-numbers 1 workers;
  writes = λ w done. absurd (true≢false (sym done));
  each = λ k t at. let e = at_numbers 1 workers k t at in fits k t e.1
      (e.0 ∙ ap new_turns (let s : 1 + k ≡ k + 1 = omega arith in s));
}
  where
    fits : (k : ℕ) (t : WorkerTurns) → k < workers → t ≡ new_turns (k + 1)
        → HasTried workers ns (numbers_from 1 workers) [] (length ns) (k + 1) t.next t.waiting
    fits k t less is =
        subst (λ (u : WorkerTurns). HasTried workers ns (numbers_from 1 workers) [] (length ns)
        (k + 1) u.next u.waiting) (sym is)
        (record {
          role = range_has (k + 1) 1 workers (omega arith) (omega arith);
          positive = omega arith;
          owned = owners.own (k + 1) (omega arith) (omega arith);
          bound = omega arith;
          waiting = tt;
          ascends = tt;
          done = λ v write owned. (λ j. sym
              (none-below workers v (k + 1) owners write.positive (omega arith) owned) j && true);
        })

no-worker : (ns : List RowName) (m : TurnMachine) (k : ℕ) → slice_get m.workers k ≡ None
    → after_worker_turn ns m (suc k) ≡ m
unfolding after_worker_at
no-worker ns m k e = ap (after_worker_at ns m k) e

worker-machine : (workers : ℕ) (ns : List RowName) (m : TurnMachine) (i : ℕ)
    → NumbersAreOwned workers → IsMachine workers ns m
    → IsMachine workers ns (after_worker_turn ns m i)
worker-machine workers ns m zero owners h = h
worker-machine workers ns m (suc k) owners h = by (slice_get m.workers k) refl
  where
    by : (o : Option WorkerTurns) → slice_get m.workers k ≡ o
        → IsMachine workers ns (after_worker_turn ns m (suc k))
    by None e = subst (IsMachine workers ns) (sym (no-worker ns m k e)) h
    by (Some t) e =
        let within = slice_get_within m.workers k t e in
        let count = h.count in
        machine-turned workers ns m (after_worker_turn ns m (suc k)) k h (omega arith)
        (turn-turned workers ns m k t owners h e)

session-machine : (workers : ℕ) (ns : List RowName) (m : TurnMachine) (count k : ℕ)
    (o : Option (List ℕ)) → IsMachine workers ns m
    → IsMachine workers ns (after_session_at m count k o)
unfolding after_session_at
session-machine workers ns m count k None h = h
session-machine workers ns m count k (Some places) h =
    record { count = h.count; writes = h.writes; each = h.each }

word-machine : (workers : ℕ) (txns : List Txn) (reads : List ReadParts) (m : TurnMachine)
    (word : TurnWord) → NumbersAreOwned workers → IsMachine workers (names_in txns) m
    → IsMachine workers (names_in txns) (after_word txns reads m word)
word-machine workers txns reads m (words.Worker i) owners h =
    worker-machine workers (names_in txns) m i owners h
word-machine workers txns reads m words.Visible owners h =
    visible-machine workers txns (names_in txns) m h
word-machine workers txns reads m (words.Session session) owners h = by session
  where
    by : (session : ℕ) → IsMachine workers (names_in txns) (after_session reads m session)
    by zero = h
    by (suc k) =
        session-machine workers (names_in txns) m (length (reads_of_session reads (suc k))) k
        (slice_get m.taken k) h

pub words-machine : (workers : ℕ) (txns : List Txn) (reads : List ReadParts) (m : TurnMachine)
    (list : List TurnWord) → NumbersAreOwned workers → IsMachine workers (names_in txns) m
    → IsMachine workers (names_in txns) (after_words txns reads m list)
unfolding after_words
words-machine workers txns reads m [] owners h = h
words-machine workers txns reads m (word ∷ list) owners h =
    words-machine workers txns reads (after_word txns reads m word) list owners
    (word-machine workers txns reads m word owners h)

pub rounds-suffice : RoundsSuffice
rounds-suffice txns workers reads turns some =
    let owners = numbers_are_owned workers some in
    closing-made workers txns (after_words txns reads (turn_start workers) turns) owners
    (predecessors_are_last (names_in txns))
    (words-machine workers txns reads (turn_start workers) turns owners
    (start-machine workers (names_in txns) owners))
