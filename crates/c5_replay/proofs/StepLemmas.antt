-- What is true of the state of a schedule after one more turn.
use Rattle.std.proofs.Common.{◌≡◌, ◌∙◌, ◌+◌, ◌-◌, ◌≤◌, ◌<◌, ◌==◌, ◌++◌, ℕ, suc, Bool, List, []}
use Rattle.std.proofs.Common.{◌∷◌, length, map, max, set, get_or, Some, slice_get, ap, sym, subst}
use Rattle.std.proofs.Common.{refl, arith}
use Rattle.std.proofs.lemmas.List.{length-map}
use Rattle.std.proofs.lemmas.Option.{slice_get-get_or}
use Rattle.c5_rows.specs.State.{State}
use Rattle.c5_definitions.specs.NumberLaws.{NumbersAreOwned, PlacesEnd}
use Rattle.c5_definitions.specs.Replies.{reads_of_session}
use Rattle.c5_definitions.specs.ScriptParts.{ReadParts}
use Rattle.c5_definitions.specs.Turns.{TurnMachine, after_session, after_visible, after_worker_turn}
use Rattle.c5_definitions.specs.Turns.{is_all_done, with_one_taken}
use Rattle.c5_definitions.specs.WriteNumbers.{end_of, place_below}
use Rattle.c5_board.specs.Boards.{Board, Pass, names, write_count, IsWorker}
use Rattle.c5_board.specs.Passes.{IsSound, floor_of}
use Rattle.c5_reads.specs.Looks.{OnlyLooks}
use Rattle.c5_snapshot.specs.Advances.{IsLeastOf, LoadsEachProgress, advanced, progress_loads}
use Rattle.c5_workers.specs.Finishing.{AreWorkersOf}
use Rattle.c5_workers.specs.Work.{FitsWorker, OnlyWorks, WorksTurn}
use Rattle.c5_workers.specs.declared.work_turn.WorkTurn.{WorkTurn}
use Rattle.c5_workers.specs.declared.worker.Worker.{Worker}
use Rattle.c5_replay.specs.Mirrors.{HaveMissed, IsTurning, Mirrors, put_offs, turns_of}
use Rattle.c5_replay.specs.TurnStates.{AreSessions, FitsTurns, HasTaken, TakesReadAt, TakesTurnAt}
use Rattle.c5_replay.specs.TurnStates.{machine_of, taken_by}
use Rattle.c5_replay.specs.declared.session_turns.SessionTurns.{SessionTurns}
use Rattle.c5_replay.specs.declared.turning.Turning.{Turning}
use Rattle.c5_replay.proofs.MachineLemmas.{session-step, taken-kept}
use Rattle.c5_replay.proofs.LastPlace.{default, test-so}
use Rattle.c5_replay.proofs.TakenLemmas.{IsLater, looked-later, sessions-in, sessions-with}
use Rattle.c5_replay.proofs.TurnMissed.{missed-loads, missed-visible, worker-missed}
use Rattle.c5_replay.proofs.TurnVisible.{turning-later, visible-mirrored, visible-turning}
use Rattle.c5_replay.proofs.TurnWorks.{worker-mirrored, worker-turning}

-- ---- later passes

pub worked-later : (i : ℕ) (p q : Pass) → OnlyWorks i p q → IsLater p q
worked-later i p q only =
    let at : q.place ≡ p.place = ap (λ (x : Pass). x.place) only.rest in
    record {
      of_board = ap (λ (x : Pass). x.board) only.rest;
      rises = omega arith;
      more = only.more;
      looks = only.looks;
    }

pub advanced-later : (p q : Pass) (place : ℕ) → q ≡ advanced p q.floors place → p.place ≤ place
    → IsLater p q
advanced-later p q place is up =
    let at : q.place ≡ place = ap (λ (x : Pass). x.place) is in
    record {
      of_board = ap (λ (x : Pass). x.board) is;
      rises = omega arith;
      more = progress_loads 1 q.floors;
      looks = ap (λ (x : Pass). x.looks) is;
    }

pub looked-turning : (board : Board) (p q : Pass) (workers : List Worker) → OnlyLooks p q
    → IsTurning board p workers → IsTurning board q workers
looked-turning board p q workers only h =
    turning-later board p q workers h
    (only.pass ∙ (λ t. record p {
      installed = sym (ap (λ (x : Pass). x.installed) only.pass) t;
      floors = sym (ap (λ (x : Pass). x.floors) only.pass) t;
      place = sym (ap (λ (x : Pass). x.place) only.pass) t;
      scheduled = q.scheduled;
      looks = sym (ap (λ (x : Pass). x.looks) only.pass) t;
    }))
    only.rises (ap (λ (x : Pass). x.installed) only.pass)
    (λ i w. ap (λ (x : Pass). floor_of x i) only.pass)

pub looked-missed : (p q : Pass) (workers : List Worker) (n : ℕ) → OnlyLooks p q
    → HaveMissed p workers n → HaveMissed q workers n
looked-missed p q workers n only h =
    missed-loads p q workers n only.more h (ap (λ (x : Pass). x.board) only.pass)
    (ap (λ (x : Pass). x.looks) only.pass) only.loads

-- ---- machines

-- the machine that the state is mirrors it
pub mirror-itself : (t : Turning) → Mirrors (machine_of t) t.pass t.workers.items t.put_off
mirror-itself t = record { done = refl; workers_so = refl; place = refl; count = refl }

-- a machine that mirrors the state is the one that it is
pub machine-is : (u : Turning) (m : TurnMachine) → Mirrors m u.pass u.workers.items u.put_off
    → map taken_by u.sessions.items ≡ m.taken → machine_of u ≡ m
machine-is u m h taken = λ x. record {
  done = sym h.done x;
  workers = sym h.workers_so x;
  place = sym h.place x;
  taken = taken x;
  put_off = sym h.count x;
}

-- ---- a worker's turn

pub worked-turning : (board : Board) (p q : Pass) (before after : List Worker) (k : ℕ)
    (result : WorkTurn) → NumbersAreOwned board.workers → IsTurning board p before
    → TakesTurnAt p q before after k result → IsTurning board q after
worked-turning board p q before after k result owners h turn =
    subst (λ (l : List Worker). IsTurning board q l) (sym turn.after_so)
    (worker-turning board p q before k turn.old turn.new result owners turn.sound h turn.at
    turn.fits turn.turn turn.only)

pub worked-fits : (board : Board) (start : State) (reads : List ReadParts) (t u : Turning) (k : ℕ)
    (result : WorkTurn) → NumbersAreOwned board.workers → FitsTurns board start reads t
    → TakesTurnAt t.pass u.pass t.workers.items u.workers.items k result
    → u.sessions.items ≡ t.sessions.items → u.put_off ≡ t.put_off + put_offs result
    → FitsTurns board start reads u
worked-fits board start reads t u k result owners h turn sessions count = record {
  turning = worked-turning board t.pass u.pass t.workers.items u.workers.items k result owners
      h.turning turn;
  sessions = subst (AreSessions u.pass start reads 0) (sym sessions)
      (sessions-in t.pass u.pass start reads 0 t.sessions.items
      (worked-later turn.old.i t.pass u.pass turn.only) h.sessions);
  missed = subst (λ (z : List Worker × ℕ). HaveMissed u.pass z.0 z.1)
      (λ x. (sym turn.after_so x, sym count x))
      (worker-missed board t.pass u.pass t.workers.items k turn.old turn.new result owners
      turn.sound h.turning turn.at turn.only t.put_off h.missed turn.turn);
}

pub worked-machine : (board : Board) (t u : Turning) (k i : ℕ) (result : WorkTurn)
    → NumbersAreOwned board.workers → IsTurning board t.pass t.workers.items → i ≡ k + 1
    → TakesTurnAt t.pass u.pass t.workers.items u.workers.items k result
    → u.sessions.items ≡ t.sessions.items → u.put_off ≡ t.put_off + put_offs result
    → machine_of u ≡ after_worker_turn (names board) (machine_of t) i
worked-machine board t u k i result owners h number turn sessions count =
    machine-is u (after_worker_turn (names board) (machine_of t) i)
    (subst (λ (z : List Worker × ℕ). Mirrors (after_worker_turn (names board) (machine_of t) i)
    u.pass z.0 z.1) (λ x. (sym turn.after_so x, sym count x))
    (worker-mirrored board t.pass u.pass t.workers.items k turn.old turn.new result owners
    turn.sound h turn.at turn.fits turn.turn turn.only (machine_of t) t.put_off i number
    (mirror-itself t)))
    (ap (map taken_by) sessions ∙ sym (taken-kept (names board) (machine_of t) i))

-- ---- the visible place advances

pub shown-machine : (board : Board) (t u : Turning) (least place : ℕ)
    → NumbersAreOwned board.workers → IsSound t.pass → IsTurning board t.pass t.workers.items
    → u.pass ≡ advanced t.pass u.pass.floors place → LoadsEachProgress t.pass u.pass
    → IsLeastOf least u.pass.floors → place ≡ place_below board.log.txns least
    → u.workers.items ≡ t.workers.items → u.sessions.items ≡ t.sessions.items
    → u.put_off ≡ t.put_off
    → machine_of u ≡ after_visible board.log.txns (machine_of t)
shown-machine board t u least place owners sound h is loads finds at workers sessions count =
    machine-is u (after_visible board.log.txns (machine_of t))
    (subst (λ (z : List Worker × ℕ). Mirrors (after_visible board.log.txns (machine_of t))
    u.pass z.0 z.1) (λ x. (sym workers x, sym count x))
    (visible-mirrored board t.pass u.pass t.workers.items least place owners sound h is loads finds
    (machine_of t) t.put_off at (mirror-itself t)))
    (ap (map taken_by) sessions)

pub shown-fits : (board : Board) (start : State) (reads : List ReadParts) (t u : Turning)
    (least place : ℕ) → NumbersAreOwned board.workers → IsSound t.pass
    → FitsTurns board start reads t → u.pass ≡ advanced t.pass u.pass.floors place
    → LoadsEachProgress t.pass u.pass → IsLeastOf least u.pass.floors → t.pass.place ≤ place
    → u.workers.items ≡ t.workers.items → u.sessions.items ≡ t.sessions.items
    → u.put_off ≡ t.put_off → FitsTurns board start reads u
shown-fits board start reads t u least place owners sound h is loads finds rises workers sessions
    count = record {
      turning = subst (IsTurning board u.pass) (sym workers)
          (visible-turning board t.pass u.pass t.workers.items least place owners sound h.turning is
          loads finds scheduled);
      sessions = subst (AreSessions u.pass start reads 0) (sym sessions)
          (sessions-in t.pass u.pass start reads 0 t.sessions.items
          (advanced-later t.pass u.pass place is rises) h.sessions);
      missed = subst (λ (z : List Worker × ℕ). HaveMissed u.pass z.0 z.1)
          (λ x. (sym workers x, sym count x))
          (missed-visible t.pass u.pass t.workers.items t.put_off place h.missed is);
    }
  where
    scheduled : t.pass.scheduled ≤ u.pass.scheduled
    scheduled =
        let at : u.pass.scheduled
        ≡ max t.pass.scheduled (end_of t.pass.board.log.txns place) =
        ap (λ (x : Pass). x.scheduled) is in
        omega arith

-- the last place is visible if and only if each write is installed
pub shown-test : (board : Board) (q : Pass) (workers : List Worker) (least : ℕ)
    → IsTurning board q workers → length q.floors ≡ board.workers → IsLeastOf least q.floors
    → ((i : ℕ) → IsWorker board.workers i → 1 ≤ floor_of q i)
    → NumbersAreOwned board.workers → PlacesEnd board.log.txns
    → q.place ≡ place_below board.log.txns least
    → (b : Bool) → (q.place == length board.log.txns) ≡ b
    → b ≡ is_all_done (write_count board) q.installed
shown-test board q workers least h count is floors owners places at b e =
    subst (λ (x : Board). b ≡ is_all_done (write_count x) q.installed) h.of_board
    (test-so q workers least h.each h.floors
    (count ∙ sym (ap (λ (x : Board). x.workers) h.of_board)) is
    (subst (λ (x : Board). NumbersAreOwned x.workers) (sym h.of_board) owners)
    (subst (λ (x : Board). PlacesEnd x.log.txns) (sym h.of_board) places) some b
    (subst (λ (x : Board). (place_below x.log.txns least == length x.log.txns) ≡ b)
    (sym h.of_board) (ap (λ (n : ℕ). n == length board.log.txns) (sym at) ∙ e)))
  where
    some : 1 ≤ least
    some =
        let k = is.among.0 in
        let less : k < length q.floors = is.among.1 in
        let back : (k + 1) - 1 ≡ k = omega arith in
        let positive : 1 ≤ floor_of q (k + 1) = floors (k + 1) (omega arith, omega arith) in
        let same : floor_of q (k + 1) ≡ least =
        ap (λ (j : ℕ). get_or q.floors j 0) back ∙ default q.floors k 0 least less ∙ is.among.2 in
        omega arith

-- ---- a session's turn

pub read-fits : (board : Board) (start : State) (reads : List ReadParts) (t u : Turning) (k : ℕ)
    (old new : SessionTurns) → FitsTurns board start reads t → OnlyLooks t.pass u.pass
    → slice_get t.sessions.items k ≡ Some old → u.sessions.items ≡ set t.sessions.items k new
    → new.session ≡ old.session → HasTaken u.pass start reads new
    → u.workers.items ≡ t.workers.items → u.put_off ≡ t.put_off → FitsTurns board start reads u
read-fits board start reads t u k old new h only at sessions same taken workers count = record {
  turning = subst (IsTurning board u.pass) (sym workers)
      (looked-turning board t.pass u.pass t.workers.items only h.turning);
  sessions = subst (AreSessions u.pass start reads 0) (sym sessions)
      (sessions-with t.pass u.pass start reads t.sessions.items k old new h.sessions at
      (looked-later t.pass u.pass only) same taken);
  missed = subst (λ (z : List Worker × ℕ). HaveMissed u.pass z.0 z.1)
      (λ x. (sym workers x, sym count x))
      (looked-missed t.pass u.pass t.workers.items t.put_off only h.missed);
}

-- ---- the worker at a place

pub worker-at : (p : Pass) (workers : List Worker) (k : ℕ) (d : Worker) → AreWorkersOf p workers
    → k < length workers → FitsWorker (get_or workers k d) p
worker-at p workers k d are less =
    are.each k (get_or workers k d) (slice_get-get_or workers k d less)

pub turn-taken : (p q : Pass) (workers : List Worker) (k : ℕ) (d new : Worker) (result : WorkTurn)
    → k < length workers → WorksTurn (get_or workers k d) new p q result → FitsWorker new q
    → OnlyWorks (get_or workers k d).i p q → IsSound q
    → TakesTurnAt p q workers (set workers k new) k result
turn-taken p q workers k d new result less turn fits only sound = record {
  old = get_or workers k d;
  new = new;
  at = slice_get-get_or workers k d less;
  turn = turn;
  fits = fits;
  only = only;
  sound = sound;
  after_so = refl;
}

-- the same turn, with other names of the workers before and after
pub taken-by-both : (p q : Pass) (before before2 after after2 : List Worker) (k : ℕ)
    (result : WorkTurn) → before ≡ before2 → after2 ≡ after → TakesTurnAt p q before after k result
    → TakesTurnAt p q before2 after2 k result
taken-by-both p q before before2 after after2 k result first second h =
    subst (λ (z : List Worker × List Worker). TakesTurnAt p q z.0 z.1 k result)
    (λ x. (first x, sym second x)) h

pub worker-count : (board : Board) (start : State) (reads : List ReadParts) (t : Turning)
    → FitsTurns board start reads t → length (machine_of t).workers ≡ board.workers
worker-count board start reads t h =
    length-map t.workers.items turns_of ∙ h.turning.each.count
    ∙ ap (λ (b : Board). b.workers) h.turning.of_board

-- ---- the session at a place

pub session-at : (p : Pass) (start : State) (reads : List ReadParts) (sessions : List SessionTurns)
    (k : ℕ) (d : SessionTurns) → AreSessions p start reads 0 sessions → k < length sessions
    → HasTaken p start reads (get_or sessions k d)
session-at p start reads sessions k d are less =
    are.each k (get_or sessions k d) (slice_get-get_or sessions k d less)

pub read-taken-at : (p q : Pass) (start : State) (reads : List ReadParts)
    (sessions : List SessionTurns) (k : ℕ) (d new : SessionTurns) → k < length sessions
    → new.session ≡ (get_or sessions k d).session → HasTaken q start reads new
    → taken_by new ≡ with_one_taken
    (length (reads_of_session reads (get_or sessions k d).session)) p.place
    (taken_by (get_or sessions k d))
    → OnlyLooks p q → TakesReadAt p q start reads sessions (set sessions k new) k
read-taken-at p q start reads sessions k d new less session taken places only = record {
  old = get_or sessions k d;
  new = new;
  at = slice_get-get_or sessions k d less;
  session = session;
  taken = taken;
  places = places;
  only = only;
  after_so = refl;
}

pub reads-by-both : (p q : Pass) (start : State) (reads : List ReadParts)
    (before before2 after after2 : List SessionTurns) (k : ℕ) → before ≡ before2 → after2 ≡ after
    → TakesReadAt p q start reads before after k → TakesReadAt p q start reads before2 after2 k
reads-by-both p q start reads before before2 after after2 k first second h =
    subst (λ (z : List SessionTurns × List SessionTurns). TakesReadAt p q start reads z.0 z.1 k)
    (λ x. (first x, sym second x)) h

pub read-machine : (board : Board) (start : State) (reads : List ReadParts) (t u : Turning)
    (k i : ℕ) → FitsTurns board start reads t → i ≡ k + 1
    → TakesReadAt t.pass u.pass start reads t.sessions.items u.sessions.items k
    → u.workers.items ≡ t.workers.items → u.put_off ≡ t.put_off
    → machine_of u ≡ after_session reads (machine_of t) i
read-machine board start reads t u k i h number turn workers count =
    let next : i ≡ suc k = omega arith in
    let order = h.sessions.order k turn.old turn.at in
    let same : turn.old.session ≡ i = omega arith in
    session-step t u reads k i turn.old turn.new next turn.at turn.after_so
    (turn.places ∙ ap (λ (j : ℕ). with_one_taken (length (reads_of_session reads j)) t.pass.place
    (taken_by turn.old)) same)
    (ap (λ (x : Pass). x.installed) turn.only.pass) workers
    (ap (λ (x : Pass). x.place) turn.only.pass) count
