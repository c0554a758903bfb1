-- What a session knows at its turn.
use Rattle.std.proofs.Common.{◌≡◌, ◌≢◌, ◌<◌, ℕ, zero, suc, Bool, true, false, cond, eqb, List, []}
use Rattle.std.proofs.Common.{◌∷◌, ◌++◌, length, drop, Option, Some, None, refl, ap, sym, subst}
use Rattle.std.proofs.Common.{◌∙◌, true≢false, arith, ◌⊎◌, inl, inr, Err}
use Rattle.std.specs.Prelude.{slice_index, IfSome}
use Rattle.std.specs.List.{All, filter}
use Rattle.std.proofs.lemmas.List.{append-nil}
use Rattle.std.proofs.lemmas.Bool.{eq-eqb, eqb-true}
use Rattle.std.proofs.lemmas.List.Elements.{All-nil, All-cons, filter-append}
use mathlib.Core.List.{IsPrefix, append_cancel_left}
use Rattle.c5_rows.specs.Numbers.{is_among}
use Rattle.c5_rows.specs.declared.writes.Write.{Write}
use Rattle.c5_definitions.specs.declared.history.Entry.{Entry}
use Rattle.c5_definitions.specs.declared.history.Event.{Event}
use Rattle.c5_definitions.specs.declared.history.OrderBase.{OrderBase}
use Rattle.c5_definitions.specs.Follows.{Follows}
use Rattle.c5_definitions.specs.SerialRun.{body_at}
use Rattle.c5_definitions.specs.declared.history.Event.TheVariants as events
use Rattle.c5_definitions.specs.History.{Begun, answered, row_seen}
use Rattle.c5_rows.specs.declared.cells.Cell.{Cell}
use Rattle.c5_rows.specs.declared.writes.RowName.{RowName}
use Rattle.c5_definitions.specs.OrderLog.{IsOpen, IsOutcome, IsOrderHistory}
use Rattle.turn_slot.specs.Entries.{entries_of, AreOf}
use Rattle.turn_slot.specs.Views.{pass_number}
use Rattle.c5_order.specs.Transactions.{with_event}
use Rattle.c5_order.proofs.Later.{others-keep, read-adds}
use Rattle.c5_primary.specs.declared.state.Opened.{Opened}
use Rattle.c5_primary.specs.declared.state.SlotId.{SlotId}
use Rattle.c5_primary.specs.declared.state.SessionState.{SessionState}
use Rattle.c5_order.specs.declared.answers.BeginFault.{BeginFault}
use Rattle.c5_order.specs.declared.answers.BeginFault.TheVariants as begins
use Rattle.c5_order.specs.Answers.{begin_answer, after_decision}
use Rattle.c5_order.specs.declared.answers.Decision.{Decision}
use Rattle.c5_order.specs.declared.answers.Decision.TheVariants as decisions
use Rattle.c5_primary.specs.Sessions.{txn_begun, answers_of, IsAtTurn, OnlySees, BeginOf, fault_of}
use Rattle.c5_primary.specs.Sessions.{IsOutcomeOf, still_open}

-- ---- numbers

pub number-among : (ns : List ℕ) (n : ℕ) → ns ≡ n ∷ drop 1 ns → is_among (pass_number ns) ns ≡ true
number-among [] n e = absurd cc
number-among (m ∷ ns) n e = rw (eq-eqb m m refl) refl

other-caller : (caller n : ℕ) (ns : List ℕ) → is_among caller ns ≡ false → is_among n ns ≡ true
    → caller ≡ n → ⊥
other-caller caller n ns none some same =
    true≢false (sym some ∙ ap (λ m. is_among m ns) (sym same) ∙ none)

-- ---- what is new is of others

none-kept : (n : ℕ) (ns : List ℕ) (more : List Entry) → is_among n ns ≡ true
    → filter (λ e. is_among e.caller ns) more ≡ [] → All (λ e. e.caller ≡ n → ⊥) more
none-kept n ns [] some none = All-nil (λ e. e.caller ≡ n → ⊥)
none-kept n ns (e ∷ more) some none = by (is_among e.caller ns) refl none (none-kept n ns more some)
  where
    by : (b : Bool) → is_among e.caller ns ≡ b
        → cond b (e ∷ filter (λ e. is_among e.caller ns) more)
        (filter (λ e. is_among e.caller ns) more) ≡ []
        → (filter (λ e. is_among e.caller ns) more ≡ [] → All (λ e. e.caller ≡ n → ⊥) more)
        → All (λ e. e.caller ≡ n → ⊥) (e ∷ more)
    by true is gone rest = absurd cc
    by false is gone rest = All-cons (λ e. e.caller ≡ n → ⊥) e more
        (other-caller e.caller n ns is some) (rest gone)

others-after : (n : ℕ) (ns : List ℕ) (seen more : List Entry) → is_among n ns ≡ true
    → entries_of (λ e. e.caller) ns (seen ++ more) ≡ entries_of (λ e. e.caller) ns seen
    → All (λ e. e.caller ≡ n → ⊥) more
others-after n ns seen more some same =
    let p : Entry → Bool = λ e. is_among e.caller ns in
    none-kept n ns more some
    (append_cancel_left (filter p seen) (filter p more) []
    (sym (filter-append p seen more) ∙ same ∙ sym (append-nil (filter p seen))))

-- ---- at a turn

abbrev pub StaysOpen : SessionState → List Entry → Opened → Type 0
StaysOpen s h o = IsOpen h (txn_begun s o)
    × (answered s.base.start h o.stamp ≡ answered s.base.start s.seen o.stamp)

pub record Turned (s : SessionState) (h : List Entry) : Type 0 where
  pub at : IsAtTurn s h
  pub open_still : (o : Opened) → IsOpen s.seen (txn_begun s o) → StaysOpen s h o

pub turned : (s : SessionState) (h : List Entry) → is_among (pass_number s.numbers) s.numbers ≡ true
    → IsOrderHistory s.base h → IsPrefix s.seen h
    → entries_of (λ e. e.caller) s.numbers h ≡ entries_of (λ e. e.caller) s.numbers s.seen
    → Turned s h
turned s h among allowed (more, is) own = record {
  at = record { allowed = allowed; longer = (more, is); own = own };
  open_still = λ o open_before.
      let others = others-after (pass_number s.numbers) s.numbers s.seen more among
      (ap (entries_of (λ e. e.caller) s.numbers) is ∙ own) in
      let kept = others-keep s.base s.seen more (txn_begun s o)
      (subst (IsOrderHistory s.base) (sym is) allowed) open_before others in (
        subst (λ g. IsOpen g (txn_begun s o)) is kept.0,
        ap (λ g. answered s.base.start g o.stamp) (sym is) ∙ kept.1,
      );
}

-- the writes follow from the reads at the turn too
pub outcome-then : (s : SessionState) (h : List Entry) (o : Opened) (writes : List Write)
    → StaysOpen s h o → IsOutcome s.base s.seen (txn_begun s o) writes
    → IsOutcome s.base h (txn_begun s o) writes
outcome-then s h o writes stays outcome = (
  outcome.0,
  subst (λ answers. Follows (body_at s.base.bodies o.script) answers outcome.0 writes)
      (sym stays.1) outcome.1,
)

-- the one entry that a call adds is of the session
pub one-of : (ns : List ℕ) (stamp : ℕ) (event : Event) → is_among (pass_number ns) ns ≡ true
    → AreOf {E = Entry} (λ e. e.caller) ns
    (record { caller = pass_number ns; stamp = stamp; event = event } ∷ [])
one-of ns stamp event among = All-cons (λ (e : Entry). is_among e.caller ns ≡ true)
    (record { caller = pass_number ns; stamp = stamp; event = event }) [] among
    (All-nil (λ (e : Entry). is_among e.caller ns ≡ true))

pub none-of : (ns : List ℕ) → AreOf {E = Entry} (λ e. e.caller) ns []
none-of ns = All-nil (λ (e : Entry). is_among e.caller ns ≡ true)

pub same-state : (slot : SlotId) (passes : ℕ) (base : OrderBase) (begun : Option Opened)
    (ns ms : List ℕ) (seen more : List Entry) (looks found : List ℕ) → ns ≡ ms → seen ≡ more
    → looks ≡ found
    → ◌≡◌ {A = SessionState}
    (record {
      slot = slot;
      passes = passes;
      base = base;
      numbers = ns;
      seen = seen;
      looks = looks;
      begun = begun;
    })
    (record {
      slot = slot;
      passes = passes;
      base = base;
      numbers = ms;
      seen = more;
      looks = found;
      begun = begun;
    })
same-state slot passes base begun ns ms seen more looks found a b c = rw (a, b, c) refl

-- a refusal of the order book, at a turn that changed nothing
pub refused : (script : ℕ) (s new : SessionState) (h : List Entry) (fault : BeginFault)
    → OnlySees s new h → (begin_answer s.base.last h script ≡ Err fault) ⊎ (fault ≡ begins.NoMemory)
    → BeginOf script s new (Err (fault_of fault))
refused script s new h (begins.Committed stamp) sees (inl e) = (h, sees, e)
refused script s new h (begins.Committed stamp) sees (inr e) = absurd cc
refused script s new h (begins.Began stamp) sees (inl e) = (h, sees, e)
refused script s new h (begins.Began stamp) sees (inr e) = absurd cc
refused script s new h (begins.Stamps last) sees (inl e) = (h, sees, e)
refused script s new h (begins.Stamps last) sees (inr e) = absurd cc
refused script s new h begins.NoMemory sees e = (h, sees)

-- ---- the open transaction, after a turn

-- it is that of the session
pub outcome-at : (s : SessionState) (o : Opened) (writes : List Write) → s.begun ≡ Some o
    → IsOutcomeOf s writes → IsOutcome s.base s.seen (txn_begun s o) writes
outcome-at s o writes is (p, at, outcome) =
    subst (λ q. IsOutcome s.base s.seen (txn_begun s q) writes)
    (ap (λ x. elim x [ None ↦ o | Some y ↦ y ]) (sym at ∙ is)) outcome

pub open-at : (s : SessionState) (saw g : List Entry) (ns : List ℕ) (o : Opened) → saw ≡ g
    → ns ≡ s.numbers → IsOpen g (txn_begun s o)
    → IsOpen saw (record { caller = pass_number ns; stamp = o.stamp; script = o.script })
open-at s saw g ns o is same there = rw (is, same) there

pub kept-open : (s : SessionState) (saw h : List Entry) (ns : List ℕ) → Turned s h → saw ≡ h
    → ns ≡ s.numbers → (q : Option Opened) → IfSome q (λ o. IsOpen s.seen (txn_begun s o))
    → IfSome q
    (λ o. IsOpen saw (record { caller = pass_number ns; stamp = o.stamp; script = o.script }))
kept-open s saw h ns t is same None there = tt
kept-open s saw h ns t is same (Some o) there =
    open-at s saw h ns o is same (t.open_still o there).0

pub decided-open : (s : SessionState) (saw h : List Entry) (ns : List ℕ) (b : Begun)
    (writes : List Write) → Turned s h → ns ≡ s.numbers → (decision : Decision)
    → saw ≡ after_decision b writes decision h → (q : Option Opened)
    → IfSome q (λ o. IsOpen s.seen (txn_begun s o))
    → IfSome (still_open decision q)
    (λ o. IsOpen saw (record { caller = pass_number ns; stamp = o.stamp; script = o.script }))
decided-open s saw h ns b writes t same decisions.Committed is q there = tt
decided-open s saw h ns b writes t same (decisions.Conflict row reader) is q there =
    kept-open s saw h ns t is same q there

-- what a decision adds is of the session
pub decided-more : (ns : List ℕ) (stamp script : ℕ) (writes : List Write) (h : List Entry)
    → is_among (pass_number ns) ns ≡ true → (decision : Decision) → (more : List Entry)
    × (after_decision
    (record { caller = pass_number ns; stamp = stamp; script = script }) writes decision h
    ≡ h ++ more) × AreOf {E = Entry} (λ e. e.caller) ns more
decided-more ns stamp script writes h among decisions.Committed = (
  record { caller = pass_number ns; stamp = stamp; event = events.Commit writes }
      ∷ [],
  refl,
  one-of ns stamp (events.Commit writes) among,
)
decided-more ns stamp script writes h among (decisions.Conflict row reader) =
    ([], sym (append-nil h), none-of ns)

answers-is : (s : SessionState) (o : Opened) → s.begun ≡ Some o
    → answers_of s ≡ answered s.base.start s.seen o.stamp
answers-is s o is =
    ap (λ q. elim q [ None ↦ [] | Some o ↦ answered s.base.start s.seen o.stamp ]) is

pub read-answers : (s new : SessionState) (h : List Entry) (o : Opened) (name : RowName)
    (row : Option (List Cell)) → s.begun ≡ Some o → new.begun ≡ Some o → new.base ≡ s.base
    → new.seen ≡ with_event h (txn_begun s o) (events.Read name) → StaysOpen s h o
    → row ≡ row_seen s.base.start h name o.stamp → answers_of new ≡ answers_of s ++ (name, row) ∷ []
read-answers s new h o name row is new_is base saw stays found =
    answers-is new o new_is
    ∙ ap (λ (b : OrderBase). answered b.start new.seen o.stamp) base
    ∙ ap (λ g. answered s.base.start g o.stamp) saw
    ∙ (read-adds s.base.start h (txn_begun s o) name stays.0).1
    ∙ ap (λ x. x ++ (name, row_seen s.base.start h name o.stamp) ∷ [])
    (stays.1 ∙ sym (answers-is s o is))
    ∙ ap (λ x. answers_of s ++ (name, x) ∷ []) (sym found)

pub kept-answers : (s new : SessionState) (h : List Entry) (o : Opened) → s.begun ≡ Some o
    → new.begun ≡ Some o → new.base ≡ s.base → new.seen ≡ h → StaysOpen s h o
    → answers_of new ≡ answers_of s
kept-answers s new h o is new_is base saw stays =
    answers-is new o new_is
    ∙ ap (λ (b : OrderBase). answered b.start new.seen o.stamp) base
    ∙ ap (λ g. answered s.base.start g o.stamp) saw
    ∙ stays.1 ∙ sym (answers-is s o is)
