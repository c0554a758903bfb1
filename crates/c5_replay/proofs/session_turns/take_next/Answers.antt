use Rattle.std.proofs.Common.{◌≡◌, ◌∙◌, ◌++◌, ◌+◌, [], ◌∷◌, List, get_or, ap, sym, subst, refl}
use Rattle.std.proofs.lemmas.Option.{get_or_from_slice_get}
use Rattle.c5_rows.specs.State.{State}
use Rattle.c5_definitions.specs.ScriptParts.{ReadParts}
use Rattle.c5_replay.specs.Answered.{HasAnswered}
use Rattle.c5_replay.proofs.TakenLemmas.{places-some, taken-more, test-some}
use Rattle.c5_replay.proofs.session_turns.take_next.Goals as goal

pub answer_next-requires-clause-session : goal.answer_next-requires-clause-session
answer_next-requires-clause-session c =
    let b = (c.in-Some.ensures {u = tt}).next in
    ap (λ (r : ReadParts). r.session)
    (get_or_from_slice_get c.args.shared.now.reads.now c.in-Some.at b.read _ b.is) ∙ b.own
    ∙ sym (ap (λ s. s.session) c.new-reading.ensures)

pub returns-clause-taken : goal.returns-clause-taken
returns-clause-taken c =
    let b = (c.in-Some.ensures {u = tt}).next in
    let s = c.args.session.now in
    let h = c.requires.taken in
    let e = c.in_ok-answer_next.ensures {u = tt} in
    let p = c.args.pass.now in
    let q = c.answer_next.new.pass in
    let start : c.new-reading.result.start ≡ c.args.shared.now.start.now =
    ap (λ s. s.start) c.new-reading.ensures in
    let is = get_or_from_slice_get c.args.shared.now.reads.now c.in-Some.at b.read
    c.index-shared-at.result b.is in
    taken-more q c.args.shared.now.start.now c.args.shared.now.reads.now s
    (record { session = s.session; looked = c.in-Some.at + 1; replies = c.answer_next.new.replies })
    c.in-Some.at b h.done h.split refl refl
    (subst (λ (z : State × ReadParts). HasAnswered q z.0 (h.done ++ z.1 ∷ [])
    c.answer_next.new.replies.items) (λ i. (start i, is i))
    (e.answered h.done
    (subst (λ (x : State). HasAnswered p x h.done s.replies.items) (sym start) h.answered)))

pub returns-clause-left : goal.returns-clause-left
returns-clause-left c =
    sym (test-some c.args.pass.now c.args.shared.now.start.now c.args.shared.now.reads.now
    c.args.session.now c.in-Some.at c.requires.taken (c.in-Some.ensures {u = tt}).next)

pub returns-clause-places : goal.returns-clause-places
returns-clause-places c =
    let s = c.args.session.now in
    places-some c.args.pass.now c.args.shared.now.start.now c.args.shared.now.reads.now s
    (record { session = s.session; looked = c.in-Some.at + 1; replies = c.answer_next.new.replies })
    c.in-Some.at c.args.pass.now.place c.requires.taken (c.in-Some.ensures {u = tt}).next
    ((c.in_ok-answer_next.ensures {u = tt}).own c.requires.role).1
