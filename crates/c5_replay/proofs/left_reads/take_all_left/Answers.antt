use Rattle.std.proofs.Common.{◌≡◌, ◌∙◌, ◌+◌, ◌-◌, ◌≤◌, ◌++◌, [], ◌∷◌, ℕ, List, length, ap, sym}
use Rattle.std.proofs.Common.{subst}
use Rattle.std.proofs.Common.{arith}
use Rattle.std.proofs.lemmas.List.{append-nil, nil_from_length}
use Rattle.std.specs.Vec.Iter.{into_iter_items}
use Rattle.c5_rows.specs.Sizes.{max_sessions}
use Rattle.c5_rows.specs.declared.answer.Reply.{Reply}
use Rattle.c5_board.specs.Boards.{Pass}
use Rattle.c5_reads.proofs.LookLemmas.{only-none, only-then}
use Rattle.c5_replay.specs.Answered.{places_of}
use Rattle.c5_replay.specs.Joins.{HaveReplied}
use Rattle.c5_replay.specs.TurnStates.{AreSessions, left_places}
use Rattle.c5_replay.specs.declared.session_turns.SessionTurns.{SessionTurns}
use Rattle.c5_replay.proofs.Sessions.{replied-none}
use Rattle.c5_replay.proofs.TakenLemmas.{first-session, left-step, looked-later, replied-in}
use Rattle.c5_replay.proofs.TakenLemmas.{sessions-in}
use Rattle.c5_replay.proofs.left_reads.take_all_left.Goals as goal

pub loop-session-init : goal.loop-session-init
loop-session-init c =
    let p = c.args.pass.now in
    let start = c.args.shared.now.start.now in
    let reads = c.args.shared.now.reads.now in
    let items : into_iter_items c.into_iter-session-iterator.result ≡ c.args.sessions.items =
    c.into_iter-session-iterator.ensures.into_iter_gives.0 in
    record {
      board = c.requires.pass;
      role = c.requires.role;
      only = only-none p;
      left = (
        0,
        subst (λ (l : List SessionTurns). AreSessions p start reads 0 l) (sym items)
            c.requires.sessions,
        subst (λ (l : List Reply). HaveReplied p start reads 0 l) (sym c.new-replies.ensures)
            (replied-none p start reads),
        λ i. places_of (c.new-replies.ensures i) ++ left_places reads p.place 1 (items i),
      );
    }

pub add_left-requires-clause-some : goal.add_left-requires-clause-some
add_left-requires-clause-some c =
    let left = c.loop-session.invariant.left in
    let start = c.args.shared.now.start.now in
    let reads = c.args.shared.now.reads.now in
    let first =
    first-session c.loop-session.pass start reads left.0 c.in-Some.session
    (into_iter_items c.next.new.self)
    (subst (λ (l : List SessionTurns). AreSessions c.loop-session.pass start reads left.0 l)
    ((c.in-Some.ensures {u = tt}).steps.0) left.1) in
    let e = first.0 in
    omega (arith, e)

pub add_left-requires-clause-taken : goal.add_left-requires-clause-taken
add_left-requires-clause-taken c =
    let left = c.loop-session.invariant.left in
    let start = c.args.shared.now.start.now in
    let reads = c.args.shared.now.reads.now in
    (first-session c.loop-session.pass start reads left.0 c.in-Some.session
    (into_iter_items c.next.new.self)
    (subst (λ (l : List SessionTurns). AreSessions c.loop-session.pass start reads left.0 l)
    ((c.in-Some.ensures {u = tt}).steps.0) left.1)).1

pub add_left-requires-clause-replied : goal.add_left-requires-clause-replied
add_left-requires-clause-replied c =
    let left = c.loop-session.invariant.left in
    let start = c.args.shared.now.start.now in
    let reads = c.args.shared.now.reads.now in
    let first =
    first-session c.loop-session.pass start reads left.0 c.in-Some.session
    (into_iter_items c.next.new.self)
    (subst (λ (l : List SessionTurns). AreSessions c.loop-session.pass start reads left.0 l)
    ((c.in-Some.ensures {u = tt}).steps.0) left.1) in
    let e = first.0 in
    let n : left.0 ≡ c.in-Some.session.session - 1 = omega (arith, e) in
    subst (λ (k : ℕ). HaveReplied c.loop-session.pass start reads k c.loop-session.replies) n left.2

pub loop-session-preserved : goal.loop-session-preserved
loop-session-preserved c =
    let inv = c.loop-session.invariant in
    let left = inv.left in
    let start = c.args.shared.now.start.now in
    let reads = c.args.shared.now.reads.now in
    let e = c.in_ok-add_left.ensures {u = tt} in
    let p = c.loop-session.pass in
    let q = c.add_left.new.pass in
    let s = c.in-Some.session in
    let rest = into_iter_items c.next.new.self in
    let items = (c.in-Some.ensures {u = tt}).steps.0 in
    let first =
    first-session p start reads left.0 s rest
    (subst (λ (l : List SessionTurns). AreSessions p start reads left.0 l) items left.1) in
    record {
      board = ap (λ (x : Pass). x.board) e.pass.pass ∙ inv.board;
      role = ap (λ (x : Pass). x.snapshot) e.pass.pass ∙ inv.role;
      only = only-then c.args.pass.now p q inv.only e.pass;
      left = (
        left.0 + 1,
        sessions-in p q start reads (left.0 + 1) rest (looked-later p q e.pass) first.2,
        subst (λ (k : ℕ). HaveReplied q start reads k c.add_left.new.replies) first.0 e.replied,
        left-step reads c.args.pass.now.place p.place (left.0 + 1) s.session s rest
            (places_of c.loop-session.replies) (places_of c.add_left.new.replies)
            (left_places reads c.args.pass.now.place 1 c.args.sessions.items)
            (ap (λ (x : Pass). x.place) inv.only.pass) first.0 e.places
            (ap (λ (l : List SessionTurns). places_of c.loop-session.replies
            ++ left_places reads c.args.pass.now.place (left.0 + 1) l) (sym items) ∙ left.3),
      );
    }

pub returns-clause-replied : goal.returns-clause-replied
returns-clause-replied c =
    let left = c.loop-session.invariant.left in
    let none : into_iter_items c.loop-session.session-iterator ≡ [] =
    nil_from_length (into_iter_items c.loop-session.session-iterator)
    (let e = (c.in-None.ensures {u = tt}).steps in grind arith) in
    let len : length (into_iter_items c.loop-session.session-iterator) ≡ 0 =
    ap (λ (l : List SessionTurns). length l) none in
    let count = left.1.count in
    let all : left.0 ≡ max_sessions = omega arith in
    subst (λ (k : ℕ). HaveReplied c.loop-session.pass c.args.shared.now.start.now
    c.args.shared.now.reads.now k c.loop-session.replies) all left.2

pub returns-clause-places : goal.returns-clause-places
returns-clause-places c =
    let left = c.loop-session.invariant.left in
    let none : into_iter_items c.loop-session.session-iterator ≡ [] =
    nil_from_length (into_iter_items c.loop-session.session-iterator)
    (let e = (c.in-None.ensures {u = tt}).steps in grind arith) in
    sym (append-nil (places_of c.loop-session.replies))
    ∙ ap (λ (l : List SessionTurns). places_of c.loop-session.replies
    ++ left_places c.args.shared.now.reads.now c.args.pass.now.place (left.0 + 1) l) (sym none)
    ∙ left.3
