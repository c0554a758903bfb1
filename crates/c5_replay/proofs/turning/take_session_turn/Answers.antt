use Rattle.std.proofs.Common.{◌≡◌, ◌∙◌, ◌+◌, ◌-◌, ◌≤◌, ◌<◌, ℕ, length, ap, sym, subst, refl, arith}
use Rattle.std.specs.Vec.{with_items}
use Rattle.std.proofs.lemmas.List.{with_items_is}
use Rattle.c5_rows.specs.State.{State}
use Rattle.c5_board.specs.Boards.{Board, Pass}
use Rattle.c5_replay.specs.TurnStates.{AreSessions}
use Rattle.c5_replay.specs.declared.session_turns.SessionTurns.{SessionTurns}
use Rattle.c5_replay.proofs.MachineLemmas.{session-none, session-zero}
use Rattle.c5_replay.proofs.StepLemmas.{read-fits, read-machine, reads-by-both}
use Rattle.c5_replay.proofs.turning.take_session_turn.Goals as goal

pub returns-then-session-eq0-clause-machine : goal.returns-then-session-eq0-clause-machine
returns-then-session-eq0-clause-machine c =
    session-zero c.args.turning.now c.args.shared.now.reads.now c.args.session c.if-session-eq0.true

pub returns-then-session-gt-MAX_SESSIONS-clause-machine
    : goal.returns-then-session-gt-MAX_SESSIONS-clause-machine
returns-then-session-gt-MAX_SESSIONS-clause-machine c =
    session-none c.args.turning.now c.args.shared.now.reads.now c.args.session
    (omega (arith, c.if-session-gt-MAX_SESSIONS.true, c.requires.fits.sessions.count))

pub read_at-requires-clause-sessions : goal.read_at-requires-clause-sessions
read_at-requires-clause-sessions c =
    subst (AreSessions c.args.turning.now.pass c.args.shared.now.start.now
    c.args.shared.now.reads.now 0) (sym c.as_mut_slice.ensures.value) c.requires.fits.sessions

pub returns-clause-fits : goal.returns-clause-fits
returns-clause-fits c =
    let t = c.args.turning.now in
    let turn =
    reads-by-both t.pass c.read_at.new.pass c.args.shared.now.start.now
    c.args.shared.now.reads.now _ _ _ _ (c.args.session - 1) c.as_mut_slice.ensures.value
    (with_items_is t.sessions c.read_at.new.sessions
    (c.read_at.auto.sessions ∙ c.as_mut_slice.ensures.len)) (c.in_ok-read_at.ensures {u = tt}) in
    read-fits c.args.shared.now.board.now c.args.shared.now.start.now c.args.shared.now.reads.now t
    (record t {
      pass = c.read_at.new.pass;
      sessions = with_items t.sessions c.read_at.new.sessions;
    })
    (c.args.session - 1) turn.old turn.new c.requires.fits turn.only turn.at turn.after_so
    turn.session turn.taken refl refl

pub returns-clause-machine : goal.returns-clause-machine
returns-clause-machine c =
    let t = c.args.turning.now in
    let some = c.if-session-eq0.false in
    let number : c.args.session ≡ (c.args.session - 1) + 1 = omega (arith, some) in
    let turn =
    reads-by-both t.pass c.read_at.new.pass c.args.shared.now.start.now
    c.args.shared.now.reads.now _ _ _ _ (c.args.session - 1) c.as_mut_slice.ensures.value
    (with_items_is t.sessions c.read_at.new.sessions
    (c.read_at.auto.sessions ∙ c.as_mut_slice.ensures.len)) (c.in_ok-read_at.ensures {u = tt}) in
    read-machine c.args.shared.now.board.now c.args.shared.now.start.now c.args.shared.now.reads.now
    t
    (record t {
      pass = c.read_at.new.pass;
      sessions = with_items t.sessions c.read_at.new.sessions;
    })
    (c.args.session - 1) c.args.session c.requires.fits number turn refl refl
