use Rattle.std.proofs.Common.{rules, ◌≡◌, ◌∙◌, sym, subst, ap, refl, Some, None, List, [], ◌∷◌}
use Rattle.std.proofs.Common.{◌++◌, ℕ, true, inl, inr}
use Rattle.std.specs.Prelude.{IfSome}
use Rattle.c5_rows.specs.Numbers.{is_among}
use Rattle.c5_definitions.specs.declared.history.Entry.{Entry}
use Rattle.c5_definitions.specs.declared.history.Event.TheVariants as events
use Rattle.c5_definitions.specs.History.{Begun, answered, row_seen}
use Rattle.c5_definitions.specs.OrderLog.{IsOpen, IsOutcome, IsOrderHistory}
use Rattle.turn_slot.specs.Passes.{numbers, seen, looks, turn_numbers}
use Rattle.turn_slot.specs.Entries.{AreOf}
use Rattle.turn_slot.specs.Views.{pass_number}
use Rattle.c5_order.specs.Transactions.{with_event}
use Rattle.c5_order.specs.Answers.{after_decision}
use Rattle.c5_order.proofs.Later.{begins-unread, read-adds}
use Rattle.c5_primary.specs.declared.state.Opened.{Opened}
use Rattle.c5_primary.specs.declared.state.SessionState.{SessionState}
use Rattle.c5_primary.specs.Sessions.{txn_begun, answers_of}
use Rattle.c5_primary.specs.Parts.{state_of, HoldsParts}
use Rattle.c5_primary.proofs.TurnLemmas.{number-among, Turned, turned, outcome-then, one-of}
use Rattle.c5_primary.proofs.TurnLemmas.{none-of, same-state, outcome-at, open-at, kept-open}
use Rattle.c5_primary.proofs.TurnLemmas.{decided-open, decided-more, read-answers, kept-answers}
use Rattle.c5_primary.proofs.turns.begin.Goals as goal

pub returns-in-Ok-clause-holds : goal.returns-in-Ok-clause-holds
returns-in-Ok-clause-holds c =
    let there : c.args.parts.now.pass ≡ Some c.in-Some.pass =
    sym c.take.ensures.value ∙ c.in-Some.is in
    let s : SessionState = state_of c.args.parts.now in
    let h = c.in-Took.value.history in
    let nums : s.numbers ≡ numbers c.in-Some.pass =
    ap (λ p. elim p [ None ↦ [] | Some x ↦ numbers x ]) there in
    let saw : s.seen ≡ seen c.in-Some.pass =
    ap (λ p. elim p [ None ↦ [] | Some x ↦ seen x ]) there in
    let looked : s.looks ≡ looks c.in-Some.pass =
    ap (λ p. elim p [ None ↦ [] | Some x ↦ looks x ]) there in
    let among : is_among (pass_number s.numbers) s.numbers ≡ true =
    rw (nums)
    (number-among (numbers c.in-Some.pass) c.in-Some.pass.number c.in-Some.pass.idle.2) in
    let t = turned s h among (rw (← c.in-Took.ensures.base) c.know_history.ensures)
    (rw (saw) c.in-Took.ensures.seen) (rw (nums, saw) c.in-Took.ensures.own) in
    let same : turn_numbers c.in-Took.turn ≡ s.numbers = c.in-Took.ensures.turn.1 ∙ sym nums in
    let b : Begun =
    record { caller = c.number-number.result; stamp = c.in-Ok.stamp; script = c.args.script } in
    let u = begins-unread c.in-Took.value.base h b
    (subst (λ z. IsOrderHistory z.base z.history) c.in-Ok.ensures.ok
    c.know_history-in-Ok.ensures) in
    let e : seen c.give.result ≡ with_event h b (events.Begin c.args.script) =
    c.give.ensures.seen ∙ ap (λ z. z.history) c.in-Ok.ensures.ok in
    let who : c.number-number.result ≡ pass_number (numbers c.give.result) =
    c.number-number.ensures.first ∙ ap pass_number
    (sym (c.give.ensures.numbers ∙ c.in-Took.ensures.turn.1)) in (
      c.give.ensures.pass,
      subst (λ g. IsOpen g
          (record {
            caller = pass_number (numbers c.give.result);
            stamp = c.in-Ok.stamp;
            script = c.args.script;
          })) (sym e)
          (subst (λ n. IsOpen (with_event h b (events.Begin c.args.script))
          (record { caller = n; stamp = c.in-Ok.stamp; script = c.args.script })) who u.0),
    )

pub returns-in-Ok-clause-unread : goal.returns-in-Ok-clause-unread
returns-in-Ok-clause-unread c =
    let there : c.args.parts.now.pass ≡ Some c.in-Some.pass =
    sym c.take.ensures.value ∙ c.in-Some.is in
    let s : SessionState = state_of c.args.parts.now in
    let h = c.in-Took.value.history in
    let nums : s.numbers ≡ numbers c.in-Some.pass =
    ap (λ p. elim p [ None ↦ [] | Some x ↦ numbers x ]) there in
    let saw : s.seen ≡ seen c.in-Some.pass =
    ap (λ p. elim p [ None ↦ [] | Some x ↦ seen x ]) there in
    let looked : s.looks ≡ looks c.in-Some.pass =
    ap (λ p. elim p [ None ↦ [] | Some x ↦ looks x ]) there in
    let among : is_among (pass_number s.numbers) s.numbers ≡ true =
    rw (nums)
    (number-among (numbers c.in-Some.pass) c.in-Some.pass.number c.in-Some.pass.idle.2) in
    let t = turned s h among (rw (← c.in-Took.ensures.base) c.know_history.ensures)
    (rw (saw) c.in-Took.ensures.seen) (rw (nums, saw) c.in-Took.ensures.own) in
    let same : turn_numbers c.in-Took.turn ≡ s.numbers = c.in-Took.ensures.turn.1 ∙ sym nums in
    let b : Begun =
    record { caller = c.number-number.result; stamp = c.in-Ok.stamp; script = c.args.script } in
    let u = begins-unread c.in-Took.value.base h b
    (subst (λ z. IsOrderHistory z.base z.history) c.in-Ok.ensures.ok
    c.know_history-in-Ok.ensures) in
    let e : seen c.give.result ≡ with_event h b (events.Begin c.args.script) =
    c.give.ensures.seen ∙ ap (λ z. z.history) c.in-Ok.ensures.ok in
    let who : c.number-number.result ≡ pass_number (numbers c.give.result) =
    c.number-number.ensures.first ∙ ap pass_number
    (sym (c.give.ensures.numbers ∙ c.in-Took.ensures.turn.1)) in
    ap (λ g. answered s.base.start g c.in-Ok.stamp) e ∙ subst
    (λ z. answered z.start (with_event h b (events.Begin c.args.script)) c.in-Ok.stamp
    ≡ []) c.in-Took.ensures.base u.1

pub returns-in-Err-clause-holds : goal.returns-in-Err-clause-holds
returns-in-Err-clause-holds c =
    let there : c.args.parts.now.pass ≡ Some c.in-Some.pass =
    sym c.take.ensures.value ∙ c.in-Some.is in
    let s : SessionState = state_of c.args.parts.now in
    let h = c.in-Took.value.history in
    let nums : s.numbers ≡ numbers c.in-Some.pass =
    ap (λ p. elim p [ None ↦ [] | Some x ↦ numbers x ]) there in
    let saw : s.seen ≡ seen c.in-Some.pass =
    ap (λ p. elim p [ None ↦ [] | Some x ↦ seen x ]) there in
    let looked : s.looks ≡ looks c.in-Some.pass =
    ap (λ p. elim p [ None ↦ [] | Some x ↦ looks x ]) there in
    let among : is_among (pass_number s.numbers) s.numbers ≡ true =
    rw (nums)
    (number-among (numbers c.in-Some.pass) c.in-Some.pass.number c.in-Some.pass.idle.2) in
    let t = turned s h among (rw (← c.in-Took.ensures.base) c.know_history.ensures)
    (rw (saw) c.in-Took.ensures.seen) (rw (nums, saw) c.in-Took.ensures.own) in
    let same : turn_numbers c.in-Took.turn ≡ s.numbers = c.in-Took.ensures.turn.1 ∙ sym nums in (
      c.give-in-Err.ensures.pass,
      kept-open s _ h _ t (c.give-in-Err.ensures.seen ∙ ap (λ z. z.history) c.in-Err.ensures.err)
          (c.give-in-Err.ensures.numbers ∙ same) c.args.parts.now.begun c.requires.holds.1,
    )
