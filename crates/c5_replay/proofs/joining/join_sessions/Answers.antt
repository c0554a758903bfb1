use Rattle.std.proofs.Common.{◌≡◌, ◌+◌, ◌-◌, ◌≤◌, ◌++◌, ℕ, List, map, sym, subst, arith}
use Rattle.std.specs.Prelude.{Result}
use Rattle.std.specs.List.{range_with_len}
use Rattle.c5_rows.specs.declared.memory.NoMemory.{NoMemory}
use Rattle.c5_io.specs.declared.gate.Role.TheVariants as roles
use Rattle.c5_replay.specs.declared.part.Part.{Part}
use Rattle.c5_replay.specs.Parts.{HaveEnded, worker_roles}
use Rattle.c5_replay.proofs.Ended.{next-ended}
use Rattle.c5_replay.proofs.JoinLemmas.{joined-more}
use Rattle.c5_replay.proofs.joining.join_sessions.Goals as goal

pub join_session-requires-clause-next : goal.join_session-requires-clause-next
join_session-requires-clause-next c =
    let some : 1 ≤ c.args.sessions - c.loop-before.before =
    (let t = c.loop-before-test.true in omega arith) in
    (next-ended c.args.shared.now.board.now c.args.shared.now.start.now c.args.shared.now.reads.now
    (λ x. roles.Session x) (c.loop-before.before + 1) (c.args.sessions - c.loop-before.before)
    (worker_roles c.args.shared.now.board.now.workers) c.loop-before.ends.items some
    c.loop-before.invariant.ends).0

pub loop-before-preserved : goal.loop-before-preserved
loop-before-preserved c =
    let board = c.args.shared.now.board.now in
    let S = c.args.shared.now.start.now in
    let R = c.args.shared.now.reads.now in
    let k = c.loop-before.before in
    let some : 1 ≤ c.args.sessions - k = (let t = c.loop-before-test.true in omega arith) in
    let less : (c.args.sessions - k) - 1 ≡ c.args.sessions - (k + 1) = omega arith in
    let e = c.in_ok-pass.ensures {u = tt} in
    let ends =
    (next-ended board S R (λ x. roles.Session x) (k + 1) (c.args.sessions - k)
    (worker_roles board.workers) c.loop-before.ends.items some c.loop-before.invariant.ends).1
    in
    record {
      pass = e.pass;
      joined = joined-more c.args.pass c.loop-before.pass c.in_ok-pass.pass
          c.loop-before.invariant.joined e.joined;
      replied = e.replied;
      ends = subst
          (λ (z : ℕ × List (Result Part NoMemory)). HaveEnded board S R
          (map (λ x. roles.Session x) (range_with_len (k + 1 + 1) z.0)
          ++ worker_roles board.workers) z.1) (λ t. (less t, sym e.ends t)) ends;
    }
