-- The state of a replay by a schedule before its first word.
use Rattle.std.proofs.Common.{◌≡◌, ◌∙◌, ◌+◌, ◌≤◌, ◌<◌, ◌++◌, ◌⊎◌, inl, inr, ⊎_elim, ℕ, zero, suc}
use Rattle.std.proofs.Common.{List, [], ◌∷◌, length, map, drop, replicate, Some, slice_get, ap, sym}
use Rattle.std.proofs.Common.{subst, refl, arith, length-append}
use Rattle.c5_rows.specs.Sizes.{max_sessions}
use Rattle.c5_rows.specs.State.{State}
use Rattle.c5_rows.specs.declared.answer.Reply.{Reply}
use Rattle.c5_definitions.specs.Replies.{reads_of_session}
use Rattle.c5_definitions.specs.ScriptParts.{ReadParts}
use Rattle.c5_definitions.specs.Turns.{WorkerTurns, turn_start}
use Rattle.c5_definitions.proofs.NumberLemmas.{numbers_are_owned}
use Rattle.c5_board.specs.Boards.{Board, Pass, write_count}
use Rattle.c5_board.specs.First.{first_pass}
use Rattle.c5_workers.specs.declared.worker.Worker.{Worker}
use Rattle.c5_workers.specs.Schedules.{OnlySchedules}
use Rattle.c5_workers.specs.Work.{IsNewWorker, FitsUnworked}
use Rattle.c5_replay.specs.Answered.{HasAnswered, places_of}
use Rattle.c5_replay.specs.Mirrors.{IsTurning, HaveMissed}
use Rattle.c5_replay.specs.TurnStates.{AreNewWorkers, AreNewSessions, AreSessions, HasTaken}
use Rattle.c5_replay.specs.TurnStates.{FitsTurns, machine_of, taken_by}
use Rattle.c5_replay.specs.declared.session_turns.SessionTurns.{SessionTurns}
use Rattle.c5_replay.specs.declared.turning.Turning.{Turning}
use Rattle.c5_replay.proofs.TurnBegin.{turning-begin, mirrors-begin, have-missed-none}
use Rattle.c5_replay.proofs.Within.{answered-none}

-- what is at a place after one worker was added
added-at : (list : List Worker) (x : Worker) (k : ℕ) (w : Worker)
    → slice_get (list ++ x ∷ []) k ≡ Some w
    → (slice_get list k ≡ Some w) ⊎ ((k ≡ length list) × (w ≡ x))
added-at [] x zero w e = inr (refl, cc)
added-at [] x (suc k) w e = absurd (cc)
added-at (y ∷ list) x zero w e = inl e
added-at (y ∷ list) x (suc k) w e = ⊎_elim (λ (l : slice_get list k ≡ Some w). inl l)
    (λ (r : (k ≡ length list) × (w ≡ x)). inr (ap suc r.0, r.1)) (added-at list x k w e)

-- one new worker more
pub workers-more : (workers n : ℕ) (list after : List Worker) (x : Worker)
    → AreNewWorkers workers n list → IsNewWorker x (n + 1) workers → FitsUnworked x (n + 1) workers
    → after ≡ list ++ x ∷ [] → AreNewWorkers workers (n + 1) after
workers-more workers n list after x h new fits is = record {
  count = ap length is ∙ length-append list (x ∷ []) ∙ ap (λ (m : ℕ). m + 1) h.count;
  each = λ k w at. by k w (added-at list x k w
      (ap (λ (l : List Worker). slice_get l k) (sym is) ∙ at));
}
  where
    by : (k : ℕ) (w : Worker) → (slice_get list k ≡ Some w) ⊎ ((k ≡ length list) × (w ≡ x))
        → IsNewWorker w (k + 1) workers × FitsUnworked w (k + 1) workers
    by k w (inl e) = h.each k w e
    by k w (inr e) =
        let place : k ≡ n = e.0 ∙ h.count in
        subst (λ (m : ℕ). IsNewWorker w (m + 1) workers × FitsUnworked w (m + 1) workers)
        (sym place)
        (subst (λ (u : Worker). IsNewWorker u (n + 1) workers × FitsUnworked u (n + 1) workers)
        (sym e.1) (new, fits))

-- a session that has looked at no block
taken-none : (p : Pass) (start : State) (reads : List ReadParts) (s : SessionTurns)
    → s.looked ≡ 0 → s.replies.items ≡ [] → HasTaken p start reads s
taken-none p start reads s looked none = record {
  done = [];
  split = ap (λ (n : ℕ). reads_of_session (drop n reads) s.session) looked;
  answered = subst (HasAnswered p start []) (sym none) (answered-none p start);
}

sessions-none : (p : Pass) (start : State) (reads : List ReadParts) (sessions : List SessionTurns)
    → AreNewSessions max_sessions sessions → AreSessions p start reads 0 sessions
sessions-none p start reads sessions h = record {
  count = let c = h.count in omega arith;
  order = λ k s at. h.order k s at ∙ (let e : k + 1 ≡ 0 + k + 1 = omega arith in e);
  each = λ k s at. taken-none p start reads s (h.none k s at).0 (h.none k s at).1;
}

none-taken : (sessions : List SessionTurns)
    → ((k : ℕ) (s : SessionTurns) → slice_get sessions k ≡ Some s → s.replies.items ≡ [])
    → map taken_by sessions ≡ replicate (length sessions) []
none-taken [] none = refl
none-taken (s ∷ sessions) none =
    λ j. places_of (none 0 s refl j) ∷ none-taken sessions (λ k u at. none (suc k) u at) j

module _ (board : Board) (start : State) (reads : List ReadParts) (t : Turning) (n : ℕ)
    (count : n ≡ board.workers) (some : 1 ≤ n) (new : AreNewWorkers n n t.workers.items)
    (sessions : AreNewSessions max_sessions t.sessions.items)
    (h : OnlySchedules (first_pass board) t.pass) (scheduled : t.pass.scheduled ≡ write_count board)
    (none : t.put_off ≡ 0) where
  workers_count : length t.workers.items ≡ board.workers
  workers_count = new.count ∙ count

  each : (k : ℕ) (w : Worker) → slice_get t.workers.items k ≡ Some w
      → IsNewWorker w (k + 1) board.workers × FitsUnworked w (k + 1) board.workers
  each = subst (λ (m : ℕ). (k : ℕ) (w : Worker) → slice_get t.workers.items k ≡ Some w
      → IsNewWorker w (k + 1) m × FitsUnworked w (k + 1) m) count new.each

  up : write_count board ≤ t.pass.scheduled
  up = omega arith

  pub opened-fits : FitsTurns board start reads t
  opened-fits = record {
    turning = turning-begin board t.pass t.workers.items h up workers_count each;
    sessions = sessions-none t.pass start reads t.sessions.items sessions;
    missed = subst (HaveMissed t.pass t.workers.items) (sym none)
        (have-missed-none board t.pass t.workers.items h up workers_count each
        (numbers_are_owned board.workers (omega arith)));
  }

  pub opened-machine : machine_of t ≡ turn_start board.workers
  opened-machine =
      let m = mirrors-begin board t.pass t.workers.items h up workers_count each in
      let taken : map taken_by t.sessions.items ≡ replicate max_sessions [] =
      none-taken t.sessions.items (λ k s at. (sessions.none k s at).1)
      ∙ ap (λ (k : ℕ). replicate k []) sessions.count in
      λ j. record {
        done = sym m.done j;
        workers = sym m.workers_so j;
        place = sym m.place j;
        taken = taken j;
        put_off = none j;
      }
