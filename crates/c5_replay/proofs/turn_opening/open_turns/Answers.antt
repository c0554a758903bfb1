use Rattle.std.proofs.Common.{refl}
use Rattle.c5_replay.specs.declared.turning.Turning.{Turning}
use Rattle.c5_replay.proofs.OpenTurns.{opened-fits, opened-machine}
use Rattle.c5_replay.proofs.turn_opening.open_turns.Goals as goal

pub returns-clause-fits : goal.returns-clause-fits
returns-clause-fits c =
    let pass = c.in_ok-pass.ensures {u = tt} in
    opened-fits c.args.shared.now.board.now c.args.shared.now.start.now
    c.args.shared.now.reads.now
    (record {
      pass = c.in_ok-pass.pass;
      workers = c.in_ok-workers.workers;
      sessions = c.in_ok-sessions.sessions;
      put_off = 0;
    }) c.workers.result c.workers.ensures.value c.workers.ensures.some
    (c.in_ok-workers.ensures {u = tt}) (c.in_ok-sessions.ensures {u = tt}) pass.pass pass.scheduled
    refl

pub returns-clause-machine : goal.returns-clause-machine
returns-clause-machine c =
    let pass = c.in_ok-pass.ensures {u = tt} in
    opened-machine c.args.shared.now.board.now c.args.shared.now.start.now
    c.args.shared.now.reads.now
    (record {
      pass = c.in_ok-pass.pass;
      workers = c.in_ok-workers.workers;
      sessions = c.in_ok-sessions.sessions;
      put_off = 0;
    }) c.workers.result c.workers.ensures.value c.workers.ensures.some
    (c.in_ok-workers.ensures {u = tt}) (c.in_ok-sessions.ensures {u = tt}) pass.pass pass.scheduled
    refl
