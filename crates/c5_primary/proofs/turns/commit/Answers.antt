use Rattle.std.proofs.Common.{rules, ◌≡◌, ◌∙◌, sym, subst, ap, refl, Some, None, List, [], ◌∷◌}
use Rattle.std.proofs.Common.{◌++◌, ℕ, true, inl, inr}
use Rattle.std.specs.Prelude.{IfSome}
use Rattle.c5_rows.specs.Numbers.{is_among}
use Rattle.c5_definitions.specs.declared.history.Entry.{Entry}
use Rattle.c5_definitions.specs.declared.history.Event.TheVariants as events
use Rattle.c5_definitions.specs.History.{Begun, answered, row_seen}
use Rattle.c5_definitions.specs.OrderLog.{IsOpen, IsOutcome, IsOrderHistory}
use Rattle.turn_slot.specs.Passes.{numbers, seen, looks, turn_numbers}
use Rattle.turn_slot.specs.Entries.{AreOf}
use Rattle.turn_slot.specs.Views.{pass_number}
use Rattle.c5_order.specs.Transactions.{with_event}
use Rattle.c5_order.specs.Answers.{after_decision}
use Rattle.c5_order.proofs.Later.{begins-unread, read-adds}
use Rattle.c5_primary.specs.declared.state.Opened.{Opened}
use Rattle.c5_primary.specs.declared.state.SessionState.{SessionState}
use Rattle.c5_primary.specs.Sessions.{txn_begun, answers_of}
use Rattle.c5_primary.specs.Parts.{state_of, HoldsParts}
use Rattle.c5_primary.proofs.TurnLemmas.{number-among, Turned, turned, outcome-then, one-of}
use Rattle.c5_primary.proofs.TurnLemmas.{none-of, same-state, outcome-at, open-at, kept-open}
use Rattle.c5_primary.proofs.TurnLemmas.{decided-open, decided-more, read-answers, kept-answers}
use Rattle.c5_primary.proofs.turns.commit.Goals as goal

pub commit-requires : goal.commit-requires
commit-requires c =
    let there : c.args.parts.now.pass ≡ Some c.in-Some.pass =
    sym c.take.ensures.value ∙ c.in-Some.is in
    let s : SessionState = state_of c.args.parts.now in
    let h = c.in-Took.value.history in
    let nums : s.numbers ≡ numbers c.in-Some.pass =
    ap (λ p. elim p [ None ↦ [] | Some x ↦ numbers x ]) there in
    let saw : s.seen ≡ seen c.in-Some.pass =
    ap (λ p. elim p [ None ↦ [] | Some x ↦ seen x ]) there in
    let looked : s.looks ≡ looks c.in-Some.pass =
    ap (λ p. elim p [ None ↦ [] | Some x ↦ looks x ]) there in
    let among : is_among (pass_number s.numbers) s.numbers ≡ true =
    rw (nums)
    (number-among (numbers c.in-Some.pass) c.in-Some.pass.number c.in-Some.pass.idle.2) in
    let t = turned s h among (rw (← c.in-Took.ensures.base) c.know_history.ensures)
    (rw (saw) c.in-Took.ensures.seen) (rw (nums, saw) c.in-Took.ensures.own) in
    let same : turn_numbers c.in-Took.turn ≡ s.numbers = c.in-Took.ensures.turn.1 ∙ sym nums in
    let o = c.in-Some-begun.opened in
    let b : Begun = txn_begun s o in
    let stays =
    t.open_still o
    (subst (λ q. IfSome q (λ o. IsOpen s.seen (txn_begun s o))) c.in-Some-begun.is
    c.requires.holds.1) in
    let outcome = outcome-then s h o c.args.writes.now stays
    (outcome-at s o c.args.writes.now c.in-Some-begun.is c.requires.outcome) in (
      b,
      stays.0,
      refl,
      subst (λ z. IsOutcome z h b c.args.writes.now)
          (sym c.in-Took.ensures.base) outcome,
    )

pub give-requires-clause-base : goal.give-requires-clause-base
give-requires-clause-base c =
    let there : c.args.parts.now.pass ≡ Some c.in-Some.pass =
    sym c.take.ensures.value ∙ c.in-Some.is in
    let s : SessionState = state_of c.args.parts.now in
    let h = c.in-Took.value.history in
    let nums : s.numbers ≡ numbers c.in-Some.pass =
    ap (λ p. elim p [ None ↦ [] | Some x ↦ numbers x ]) there in
    let saw : s.seen ≡ seen c.in-Some.pass =
    ap (λ p. elim p [ None ↦ [] | Some x ↦ seen x ]) there in
    let looked : s.looks ≡ looks c.in-Some.pass =
    ap (λ p. elim p [ None ↦ [] | Some x ↦ looks x ]) there in
    let among : is_among (pass_number s.numbers) s.numbers ≡ true =
    rw (nums)
    (number-among (numbers c.in-Some.pass) c.in-Some.pass.number c.in-Some.pass.idle.2) in
    let t = turned s h among (rw (← c.in-Took.ensures.base) c.know_history.ensures)
    (rw (saw) c.in-Took.ensures.seen) (rw (nums, saw) c.in-Took.ensures.own) in
    let same : turn_numbers c.in-Took.turn ≡ s.numbers = c.in-Took.ensures.turn.1 ∙ sym nums in
    let o = c.in-Some-begun.opened in
    let b : Begun = txn_begun s o in
    let stays =
    t.open_still o
    (subst (λ q. IfSome q (λ o. IsOpen s.seen (txn_begun s o))) c.in-Some-begun.is
    c.requires.holds.1) in
    let after = c.in-Ok.ensures.ok b stays.0 refl in
    ap (λ z. z.base) after ∙ c.in-Took.ensures.base

pub give-requires-clause-history : goal.give-requires-clause-history
give-requires-clause-history c =
    let there : c.args.parts.now.pass ≡ Some c.in-Some.pass =
    sym c.take.ensures.value ∙ c.in-Some.is in
    let s : SessionState = state_of c.args.parts.now in
    let h = c.in-Took.value.history in
    let nums : s.numbers ≡ numbers c.in-Some.pass =
    ap (λ p. elim p [ None ↦ [] | Some x ↦ numbers x ]) there in
    let saw : s.seen ≡ seen c.in-Some.pass =
    ap (λ p. elim p [ None ↦ [] | Some x ↦ seen x ]) there in
    let looked : s.looks ≡ looks c.in-Some.pass =
    ap (λ p. elim p [ None ↦ [] | Some x ↦ looks x ]) there in
    let among : is_among (pass_number s.numbers) s.numbers ≡ true =
    rw (nums)
    (number-among (numbers c.in-Some.pass) c.in-Some.pass.number c.in-Some.pass.idle.2) in
    let t = turned s h among (rw (← c.in-Took.ensures.base) c.know_history.ensures)
    (rw (saw) c.in-Took.ensures.seen) (rw (nums, saw) c.in-Took.ensures.own) in
    let same : turn_numbers c.in-Took.turn ≡ s.numbers = c.in-Took.ensures.turn.1 ∙ sym nums in
    let o = c.in-Some-begun.opened in
    let b : Begun = txn_begun s o in
    let stays =
    t.open_still o
    (subst (λ q. IfSome q (λ o. IsOpen s.seen (txn_begun s o))) c.in-Some-begun.is
    c.requires.holds.1) in
    let after = c.in-Ok.ensures.ok b stays.0 refl in
    let m = decided-more s.numbers o.stamp o.script c.args.writes.now h among c.in-Ok.decision in (
      m.0,
      ap (λ z. z.history) after ∙ m.1 ∙ ap (λ g. g ++ m.0) (sym c.in-Took.ensures.history),
      subst (λ ns. AreOf {E = Entry} (λ e. e.caller) ns m.0) (sym same) m.2,
    )

pub returns-in-Ok-clause-holds : goal.returns-in-Ok-clause-holds
returns-in-Ok-clause-holds c =
    let there : c.args.parts.now.pass ≡ Some c.in-Some.pass =
    sym c.take.ensures.value ∙ c.in-Some.is in
    let s : SessionState = state_of c.args.parts.now in
    let h = c.in-Took.value.history in
    let nums : s.numbers ≡ numbers c.in-Some.pass =
    ap (λ p. elim p [ None ↦ [] | Some x ↦ numbers x ]) there in
    let saw : s.seen ≡ seen c.in-Some.pass =
    ap (λ p. elim p [ None ↦ [] | Some x ↦ seen x ]) there in
    let looked : s.looks ≡ looks c.in-Some.pass =
    ap (λ p. elim p [ None ↦ [] | Some x ↦ looks x ]) there in
    let among : is_among (pass_number s.numbers) s.numbers ≡ true =
    rw (nums)
    (number-among (numbers c.in-Some.pass) c.in-Some.pass.number c.in-Some.pass.idle.2) in
    let t = turned s h among (rw (← c.in-Took.ensures.base) c.know_history.ensures)
    (rw (saw) c.in-Took.ensures.seen) (rw (nums, saw) c.in-Took.ensures.own) in
    let same : turn_numbers c.in-Took.turn ≡ s.numbers = c.in-Took.ensures.turn.1 ∙ sym nums in
    let o = c.in-Some-begun.opened in
    let b : Begun = txn_begun s o in
    let stays =
    t.open_still o
    (subst (λ q. IfSome q (λ o. IsOpen s.seen (txn_begun s o))) c.in-Some-begun.is
    c.requires.holds.1) in
    let after = c.in-Ok.ensures.ok b stays.0 refl in (
      c.give.ensures.pass,
      rw (c.still_open-parts.ensures)
          (decided-open s _ h _ b c.args.writes.now t (c.give.ensures.numbers ∙ same)
          c.in-Ok.decision (c.give.ensures.seen ∙ ap (λ z. z.history) after) c.args.parts.now.begun
          c.requires.holds.1),
    )

pub returns-in-Ok-clause-commit : goal.returns-in-Ok-clause-commit
returns-in-Ok-clause-commit c =
    let there : c.args.parts.now.pass ≡ Some c.in-Some.pass =
    sym c.take.ensures.value ∙ c.in-Some.is in
    let s : SessionState = state_of c.args.parts.now in
    let h = c.in-Took.value.history in
    let nums : s.numbers ≡ numbers c.in-Some.pass =
    ap (λ p. elim p [ None ↦ [] | Some x ↦ numbers x ]) there in
    let saw : s.seen ≡ seen c.in-Some.pass =
    ap (λ p. elim p [ None ↦ [] | Some x ↦ seen x ]) there in
    let looked : s.looks ≡ looks c.in-Some.pass =
    ap (λ p. elim p [ None ↦ [] | Some x ↦ looks x ]) there in
    let among : is_among (pass_number s.numbers) s.numbers ≡ true =
    rw (nums)
    (number-among (numbers c.in-Some.pass) c.in-Some.pass.number c.in-Some.pass.idle.2) in
    let t = turned s h among (rw (← c.in-Took.ensures.base) c.know_history.ensures)
    (rw (saw) c.in-Took.ensures.seen) (rw (nums, saw) c.in-Took.ensures.own) in
    let same : turn_numbers c.in-Took.turn ≡ s.numbers = c.in-Took.ensures.turn.1 ∙ sym nums in
    let o = c.in-Some-begun.opened in
    let b : Begun = txn_begun s o in
    let stays =
    t.open_still o
    (subst (λ q. IfSome q (λ o. IsOpen s.seen (txn_begun s o))) c.in-Some-begun.is
    c.requires.holds.1) in
    let after = c.in-Ok.ensures.ok b stays.0 refl in (
      h,
      o,
      t.at,
      c.in-Some-begun.is,
      c.in-Ok.ensures.decision,
      rw (c.still_open-parts.ensures)
          (same-state _ _ _ _ _ s.numbers _
          (after_decision b c.args.writes.now c.in-Ok.decision h) _ (s.looks ++ 0 ∷ [])
          (c.give.ensures.numbers ∙ same)
          (c.give.ensures.seen ∙ ap (λ z. z.history) after)
          (c.give.ensures.looks ∙ c.in-Took.ensures.took ∙ ap (λ l. l ++ 0 ∷ []) (sym looked))),
    )

pub returns-in-Err-clause-holds : goal.returns-in-Err-clause-holds
returns-in-Err-clause-holds c =
    let there : c.args.parts.now.pass ≡ Some c.in-Some.pass =
    sym c.take.ensures.value ∙ c.in-Some.is in
    let s : SessionState = state_of c.args.parts.now in
    let h = c.in-Took.value.history in
    let nums : s.numbers ≡ numbers c.in-Some.pass =
    ap (λ p. elim p [ None ↦ [] | Some x ↦ numbers x ]) there in
    let saw : s.seen ≡ seen c.in-Some.pass =
    ap (λ p. elim p [ None ↦ [] | Some x ↦ seen x ]) there in
    let looked : s.looks ≡ looks c.in-Some.pass =
    ap (λ p. elim p [ None ↦ [] | Some x ↦ looks x ]) there in
    let among : is_among (pass_number s.numbers) s.numbers ≡ true =
    rw (nums)
    (number-among (numbers c.in-Some.pass) c.in-Some.pass.number c.in-Some.pass.idle.2) in
    let t = turned s h among (rw (← c.in-Took.ensures.base) c.know_history.ensures)
    (rw (saw) c.in-Took.ensures.seen) (rw (nums, saw) c.in-Took.ensures.own) in
    let same : turn_numbers c.in-Took.turn ≡ s.numbers = c.in-Took.ensures.turn.1 ∙ sym nums in (
      c.give-in-Err.ensures.pass,
      kept-open s _ h _ t (c.give-in-Err.ensures.seen ∙ ap (λ z. z.history) c.in-Err.ensures.err)
          (c.give-in-Err.ensures.numbers ∙ same) c.args.parts.now.begun c.requires.holds.1,
    )
