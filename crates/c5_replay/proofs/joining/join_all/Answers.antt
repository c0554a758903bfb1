use Rattle.std.proofs.Common.{◌≡◌, ◌≤◌, arith}
use Rattle.c5_replay.proofs.Sessions.{replied-later, replied-all}
use Rattle.c5_replay.proofs.joining.join_all.Goals as goal

pub returns-clause-joined : goal.returns-clause-joined
returns-clause-joined c =
    let a = c.in_ok-pass.ensures {u = tt} in
    let b = c.in_ok-pass-2.ensures {u = tt} in
    let d = c.in_ok-pass-3.ensures {u = tt} in
    let e = c.in_ok-pass-4.ensures {u = tt} in
    record {
      worked = e.worked;
      snapshot_role = e.joined.snapshot_kept (d.joined.snapshot_kept b.role);
      scheduler_role = e.joined.scheduler_kept
          (d.joined.scheduler_kept (b.joined.scheduler_kept a.role));
      all_scheduled =
          (let w = a.scheduled in let x = b.joined.scheduled_more in
          let y = d.joined.scheduled_more in let z = e.joined.scheduled_more in omega arith);
      replied =
          replied-all c.in_ok-pass-4.pass c.args.shared.now.start.now c.args.shared.now.reads.now
          c.args.sessions c.join_sessions.new.replies c.requires.few_sessions c.requires.sessions
          (replied-later c.in_ok-pass-3.pass c.in_ok-pass-4.pass c.args.shared.now.start.now
          c.args.shared.now.reads.now c.args.sessions c.join_sessions.new.replies d.replied e.joined);
    }
