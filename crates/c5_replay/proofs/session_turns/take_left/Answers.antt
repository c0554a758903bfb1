use Rattle.std.proofs.Common.{◌≡◌, ◌∙◌, ◌-◌, ◌<◌, ℕ, length, ap, sym, subst, refl}
use Rattle.c5_definitions.specs.Replies.{reads_of_session}
use Rattle.c5_board.specs.Boards.{Pass}
use Rattle.c5_reads.proofs.LookLemmas.{only-none, only-then}
use Rattle.c5_replay.specs.TurnStates.{taken_by}
use Rattle.c5_replay.proofs.TakenLemmas.{end-answered, fewer-left, left-more, left-none, none-taken}
use Rattle.c5_replay.proofs.session_turns.take_left.Goals as goal

pub loop-took-init : goal.loop-took-init
loop-took-init c =
    record {
      board = c.requires.pass;
      role = c.requires.role;
      only = only-none c.args.pass.now;
      taken = c.requires.taken;
      session = refl;
      places = refl;
    }

pub loop-took-preserved : goal.loop-took-preserved
loop-took-preserved c =
    let inv = c.loop-took.invariant in
    let e = c.in_ok-took.ensures {u = tt} in
    let p = c.args.pass.now in
    record {
      board = ap (λ (x : Pass). x.board) e.pass.pass ∙ inv.board;
      role = ap (λ (x : Pass). x.snapshot) e.pass.pass ∙ inv.role;
      only = only-then p c.loop-took.pass c.take_next.new.pass inv.only e.pass;
      taken = e.taken;
      session = e.session ∙ inv.session;
      places = left-more c.args.shared.now.reads.now p.place c.loop-took.pass.place
          c.args.session.now.session c.loop-took.session.session (taken_by c.loop-took.session)
          (taken_by c.take_next.new.session) (ap (λ (x : Pass). x.place) inv.only.pass) inv.session
          (sym e.left ∙ c.if-not-took.false) e.places ∙ inv.places;
    }

pub loop-took-smaller : goal.loop-took-smaller
loop-took-smaller c =
    let reads = c.args.shared.now.reads.now in
    let e = c.in_ok-took.ensures {u = tt} in
    subst (λ (n : ℕ). length (reads_of_session reads n) - length (taken_by c.take_next.new.session)
    < length (reads_of_session reads c.loop-took.session.session)
    - length (taken_by c.loop-took.session)) (sym e.session)
    (fewer-left (length (reads_of_session reads c.loop-took.session.session)) c.loop-took.pass.place
    (taken_by c.loop-took.session) (taken_by c.take_next.new.session)
    (sym e.left ∙ c.if-not-took.false) e.places)

pub returns-then-not-took-clause-answered : goal.returns-then-not-took-clause-answered
returns-then-not-took-clause-answered c =
    let e = c.in_ok-took.ensures {u = tt} in
    end-answered c.take_next.new.pass c.args.shared.now.start.now c.args.shared.now.reads.now
    c.loop-took.session c.take_next.new.session c.loop-took.pass.place c.args.session.now.session
    e.taken e.session c.loop-took.invariant.session (sym e.left ∙ c.if-not-took.true) e.places

pub returns-then-not-took-clause-places : goal.returns-then-not-took-clause-places
returns-then-not-took-clause-places c =
    let e = c.in_ok-took.ensures {u = tt} in
    let reads = c.args.shared.now.reads.now in
    let inv = c.loop-took.invariant in
    let test = sym e.left ∙ c.if-not-took.true in
    none-taken (length (reads_of_session reads c.loop-took.session.session)) c.loop-took.pass.place
    (taken_by c.loop-took.session) (taken_by c.take_next.new.session) test e.places
    ∙ left-none reads c.args.pass.now.place c.args.session.now.session c.loop-took.session.session
    (taken_by c.loop-took.session) inv.session test ∙ inv.places

pub returns-then-not-took-clause-pass : goal.returns-then-not-took-clause-pass
returns-then-not-took-clause-pass c =
    only-then c.args.pass.now c.loop-took.pass c.take_next.new.pass c.loop-took.invariant.only
    (c.in_ok-took.ensures {u = tt}).pass
