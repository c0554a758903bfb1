-- The state of a replay by a schedule, between two words: its sessions, and the machine that it is.
use Prim.Native.Nat.{zero, suc}
use Rattle.std.specs.Prelude.{◌≡◌, ◌+◌, ◌++◌, ℕ, List, [], ◌∷◌, length, map, drop, slice_get}
use Rattle.std.specs.Prelude.{slice_set, Option, Some, None}
use Rattle.std.specs.List.{flat_map, range_with_len, zip}
use Rattle.c5_rows.specs.Sizes.{max_sessions}
use Rattle.c5_rows.specs.State.{State}
use Rattle.c5_definitions.specs.Replies.{reads_of_session}
use Rattle.c5_definitions.specs.ScriptParts.{ReadParts}
use Rattle.c5_definitions.specs.Turns.{TurnMachine, with_left_taken, with_one_taken}
use Rattle.c5_board.specs.Boards.{Board, Pass}
use Rattle.c5_board.specs.Passes.{IsSound}
use Rattle.c5_reads.specs.Looks.{OnlyLooks}
use Rattle.c5_workers.specs.Work.{FitsWorker, FitsUnworked, IsNewWorker, OnlyWorks, WorksTurn}
use Rattle.c5_workers.specs.declared.work_turn.WorkTurn.{WorkTurn}
use Rattle.c5_workers.specs.declared.worker.Worker.{Worker}
use Rattle.c5_replay.specs.Answered.{HasAnswered, places_of}
use Rattle.c5_replay.specs.Mirrors.{IsTurning, HaveMissed, turns_of}
use Rattle.c5_replay.specs.declared.session_turns.SessionTurns.{SessionTurns}
use Rattle.c5_replay.specs.declared.turning.Turning.{Turning}

-- ---- sessions

-- the places at which a session's reads were taken
abbrev pub taken_by : SessionTurns → List ℕ
taken_by s = places_of s.replies.items

-- the session has answered its reads among those that it has looked at
pub record HasTaken (p : Pass) (start : State) (reads : List ReadParts)
    (s : SessionTurns) : Type 0 where
  pub done : List ReadParts
  pub split : done ++ reads_of_session (drop s.looked reads) s.session
      ≡ reads_of_session reads s.session
  pub answered : HasAnswered p start done s.replies.items

-- the sessions after so many, in order
pub record AreSessions (p : Pass) (start : State) (reads : List ReadParts) (before : ℕ)
    (sessions : List SessionTurns) : Type 0 where
  pub count : before + length sessions ≡ max_sessions
  pub order : (k : ℕ) (s : SessionTurns) → slice_get sessions k ≡ Some s
      → s.session ≡ before + k + 1
  pub each : (k : ℕ) (s : SessionTurns) → slice_get sessions k ≡ Some s
      → HasTaken p start reads s

-- the first block of a session from a place on
pub record IsBlockFrom (reads : List ReadParts) (session from at : ℕ) : Type 0 where
  pub read : ReadParts
  pub is : slice_get reads at ≡ Some read
  pub own : read.session ≡ session
  pub skipped : reads_of_session (drop from reads) session
      ≡ reads_of_session (drop at reads) session

abbrev pub IsNextBlock : List ReadParts → ℕ → ℕ → Option ℕ → Type 0
IsNextBlock reads session from None = reads_of_session (drop from reads) session ≡ []
IsNextBlock reads session from (Some at) = IsBlockFrom reads session from at

-- the session at place k has taken its next read, if one was left
pub record TakesReadAt (p q : Pass) (start : State) (reads : List ReadParts)
    (before after : List SessionTurns) (k : ℕ) : Type 0 where
  pub old : SessionTurns
  pub new : SessionTurns
  pub at : slice_get before k ≡ Some old
  pub session : new.session ≡ old.session
  pub taken : HasTaken q start reads new
  pub places : taken_by new
      ≡ with_one_taken (length (reads_of_session reads old.session)) p.place (taken_by old)
  pub only : OnlyLooks p q
  pub after_so : after ≡ slice_set before k new

-- the places of the reads of sessions from this one on, once those that are left are taken
abbrev pub left_places : List ReadParts → ℕ → ℕ → List SessionTurns → List ℕ
left_places reads place first [] = []
left_places reads place first (s ∷ sessions) =
    with_left_taken reads place first (taken_by s)
    ++ left_places reads place (first + 1) sessions

-- ---- workers

-- the worker at place k has taken a turn
pub record TakesTurnAt (p q : Pass) (before after : List Worker) (k : ℕ)
    (result : WorkTurn) : Type 0 where
  pub old : Worker
  pub new : Worker
  pub at : slice_get before k ≡ Some old
  pub turn : WorksTurn old new p q result
  pub fits : FitsWorker new q
  pub only : OnlyWorks old.i p q
  pub sound : IsSound q
  pub after_so : after ≡ slice_set before k new

-- so many workers, in order, that have tried nothing
pub record AreNewWorkers (workers n : ℕ) (list : List Worker) : Type 0 where
  pub count : length list ≡ n
  pub each : (k : ℕ) (w : Worker) → slice_get list k ≡ Some w → IsNewWorker w (k + 1) workers
      × FitsUnworked w (k + 1) workers

-- so many sessions, in order, that have looked at no block
pub record AreNewSessions (n : ℕ) (list : List SessionTurns) : Type 0 where
  pub count : length list ≡ n
  pub order : (k : ℕ) (s : SessionTurns) → slice_get list k ≡ Some s → s.session ≡ k + 1
  pub none : (k : ℕ) (s : SessionTurns) → slice_get list k ≡ Some s
      → (s.looked ≡ 0) × (s.replies.items ≡ [])

-- ---- the whole state

-- what is true of it between two words
pub record FitsTurns (board : Board) (start : State) (reads : List ReadParts)
    (t : Turning) : Type 0 where
  pub turning : IsTurning board t.pass t.workers.items
  pub sessions : AreSessions t.pass start reads 0 t.sessions.items
  pub missed : HaveMissed t.pass t.workers.items t.put_off

-- the machine that it is
abbrev pub machine_of : Turning → TurnMachine
machine_of t = record {
  done = t.pass.installed;
  workers = map turns_of t.workers.items;
  place = t.pass.place;
  taken = map taken_by t.sessions.items;
  put_off = t.put_off;
}
