-- What the calls of a session do.
use Rattle.std.specs.Prelude.{◌≡◌, ◌≢◌, ℕ, List, [], ◌∷◌, ◌++◌, Option, Some, None, IfSome, Result}
use Rattle.std.specs.Prelude.{Ok, Err, false}
use mathlib.Core.List.{IsPrefix}
use Rattle.c5_rows.specs.declared.cells.Cell.{Cell}
use Rattle.c5_rows.specs.declared.writes.RowName.{RowName}
use Rattle.c5_rows.specs.declared.writes.Write.{Write}
use Rattle.c5_rows.specs.Numbers.{is_among}
use Rattle.c5_definitions.specs.declared.history.Entry.{Entry}
use Rattle.c5_definitions.specs.declared.history.Event.TheVariants as events
use Rattle.c5_definitions.specs.Follows.{Read}
use Rattle.c5_definitions.specs.History.{Begun, answered, row_seen}
use Rattle.c5_definitions.specs.OrderLog.{IsOrderHistory, IsOutcome}
use Rattle.turn_slot.specs.Entries.{IsPassNumber, entries_of}
use Rattle.turn_slot.specs.Views.{pass_number}
use Rattle.c5_order.specs.declared.answers.BeginFault.{BeginFault}
use Rattle.c5_order.specs.declared.answers.BeginFault.TheVariants as begins
use Rattle.c5_order.specs.declared.answers.Decision.{Decision}
use Rattle.c5_order.specs.declared.answers.Decision.TheVariants as decisions
use Rattle.c5_order.specs.Answers.{begin_answer, after_decision, IsDecision}
use Rattle.c5_order.specs.Transactions.{with_event}
use Rattle.c5_primary.specs.declared.state.Opened.{Opened}
use Rattle.c5_primary.specs.declared.state.SessionState.{SessionState}
use Rattle.c5_primary.specs.declared.state.SessionFault.{SessionFault}
use Rattle.c5_primary.specs.declared.state.SessionFault.TheVariants.{Busy, Committed, Began, Stamps}
use Rattle.c5_primary.specs.declared.state.SessionFault.TheVariants.{NoMemory}

-- a transaction of the session
abbrev pub txn_begun : SessionState → Opened → Begun
txn_begun s o = record { caller = pass_number s.numbers; stamp = o.stamp; script = o.script }

-- what the open transaction was answered
abbrev pub answers_of : SessionState → List Read
answers_of s = elim s.begun [ None ↦ [] | Some o ↦ answered s.base.start s.seen o.stamp ]

-- the history at a call's turn: one that timestamp ordering allows, which begins with what the
-- session has seen, and has no other entry of its numbers
pub record IsAtTurn (s : SessionState) (history : List Entry) : Type 0 where
  pub allowed : IsOrderHistory s.base history
  pub longer : IsPrefix s.seen history
  pub own : entries_of (λ e. e.caller) s.numbers history
      ≡ entries_of (λ e. e.caller) s.numbers s.seen

-- the call had its turn, and left this history and this open transaction
abbrev pub after_turn : SessionState → List Entry → Option Opened → SessionState
after_turn s history begun =
    record s { seen = history; looks = s.looks ++ 0 ∷ []; begun = begun }

-- the exchange of the call found the number of another pass
abbrev pub FindsHolder : SessionState → SessionState → ℕ → Type 0
FindsHolder s new holder = (new ≡ record s { looks = s.looks ++ holder ∷ [] }) × (holder ≢ 0)
    × IsPassNumber s.passes holder × (is_among holder s.numbers ≡ false)

-- the call had its turn, and changed nothing
abbrev pub OnlySees : SessionState → SessionState → List Entry → Type 0
OnlySees s new history = IsAtTurn s history × (new ≡ after_turn s history s.begun)

-- the begin of a body: the answer is that of the order book at the turn
abbrev pub BeginOf : ℕ → SessionState → SessionState → Result ℕ SessionFault → Type 0
BeginOf script s new (Ok stamp) = (h : List Entry) × IsAtTurn s h
    × (begin_answer s.base.last h script ≡ Ok stamp)
    × (new ≡ after_turn s
    (with_event h (txn_begun s (record { stamp = stamp; script = script })) (events.Begin script))
    (Some (record { stamp = stamp; script = script })))
BeginOf script s new (Err (Busy holder)) = FindsHolder s new holder
BeginOf script s new (Err (Committed stamp)) = (h : List Entry) × OnlySees s new h
    × (begin_answer s.base.last h script ≡ Err (begins.Committed stamp))
BeginOf script s new (Err (Began stamp)) = (h : List Entry) × OnlySees s new h
    × (begin_answer s.base.last h script ≡ Err (begins.Began stamp))
BeginOf script s new (Err (Stamps last)) = (h : List Entry) × OnlySees s new h
    × (begin_answer s.base.last h script ≡ Err (begins.Stamps last))
BeginOf script s new (Err NoMemory) = (h : List Entry) × OnlySees s new h

-- the refusal of an order book as one of a session
abbrev pub fault_of : BeginFault → SessionFault
fault_of (begins.Committed stamp) = Committed stamp
fault_of (begins.Began stamp) = Began stamp
fault_of (begins.Stamps last) = Stamps last
fault_of begins.NoMemory = NoMemory

-- a call that isn't a begin did nothing
abbrev pub FailsWith : SessionState → SessionState → SessionFault → Type 0
FailsWith s new (Busy holder) = FindsHolder s new holder
FailsWith s new NoMemory = (h : List Entry) × OnlySees s new h
FailsWith s new (Committed stamp) = ⊥
FailsWith s new (Began stamp) = ⊥
FailsWith s new (Stamps last) = ⊥

-- a read of the open transaction
abbrev pub ReadOf : RowName → SessionState → SessionState
    → Result (Option (List Cell)) SessionFault → Type 0
ReadOf name s new (Ok row) = (h : List Entry) × (o : Opened) × IsAtTurn s h × (s.begun ≡ Some o)
    × (row ≡ row_seen s.base.start h name o.stamp)
    × (new ≡ after_turn s (with_event h (txn_begun s o) (events.Read name)) s.begun)
ReadOf name s new (Err fault) = FailsWith s new fault

-- a commit ends its transaction, and a conflict leaves it open
abbrev pub still_open : Decision → Option Opened → Option Opened
still_open decisions.Committed begun = None
still_open (decisions.Conflict row reader) begun = begun

-- a commit of the open transaction: the decision is that of the order book at the turn
abbrev pub CommitOf : List Write → SessionState → SessionState
    → Result Decision SessionFault → Type 0
CommitOf writes s new (Ok decision) = (h : List Entry) × (o : Opened) × IsAtTurn s h
    × (s.begun ≡ Some o) × IsDecision h o.stamp writes decision
    × (new ≡ after_turn s (after_decision (txn_begun s o) writes decision h)
    (still_open decision s.begun))
CommitOf writes s new (Err fault) = FailsWith s new fault

-- a cancel of the open transaction, which takes no memory
abbrev pub CancelOf : SessionState → SessionState → Result (Unit {0}) SessionFault → Type 0
CancelOf s new (Ok _) = (h : List Entry) × (o : Opened) × IsAtTurn s h × (s.begun ≡ Some o)
    × (new ≡ after_turn s (with_event h (txn_begun s o) events.Cancel) None)
CancelOf s new (Err (Busy holder)) = FindsHolder s new holder
CancelOf s new (Err (Committed stamp)) = ⊥
CancelOf s new (Err (Began stamp)) = ⊥
CancelOf s new (Err (Stamps last)) = ⊥
CancelOf s new (Err NoMemory) = ⊥

-- the writes are those that the body of the open transaction gives on what it was answered
abbrev pub IsOutcomeOf : SessionState → List Write → Type 0
IsOutcomeOf s writes = (o : Opened) × (s.begun ≡ Some o)
    × IsOutcome s.base s.seen (txn_begun s o) writes
