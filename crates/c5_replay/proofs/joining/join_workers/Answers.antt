use Rattle.std.proofs.Common.{◌≡◌, ◌+◌, ◌-◌, ◌≤◌, ◌++◌, [], ℕ, List, map, sym, subst, arith}
use Rattle.std.specs.Prelude.{Result}
use Rattle.std.specs.List.{range_with_len}
use Rattle.c5_rows.specs.declared.memory.NoMemory.{NoMemory}
use Rattle.c5_io.specs.declared.gate.Role.TheVariants as roles
use Rattle.c5_replay.specs.declared.part.Part.{Part}
use Rattle.c5_replay.specs.Parts.{HaveEnded}
use Rattle.c5_replay.proofs.Ended.{next-ended}
use Rattle.c5_replay.proofs.JoinLemmas.{joined-more}
use Rattle.c5_replay.proofs.joining.join_workers.Goals as goal

pub join_worker-requires-clause-next : goal.join_worker-requires-clause-next
join_worker-requires-clause-next c =
    let workers = c.args.shared.now.board.now.workers in
    let some : 1 ≤ workers - c.loop-before.before =
    (let t = c.loop-before-test.true in let n = c.workers-before-end.ensures.value in
    omega arith) in
    (next-ended c.args.shared.now.board.now c.args.shared.now.start.now c.args.shared.now.reads.now
    (λ x. roles.Worker x) (c.loop-before.before + 1)
    (workers - c.loop-before.before) [] c.loop-before.ends.items some
    c.loop-before.invariant.ends).0

pub loop-before-preserved : goal.loop-before-preserved
loop-before-preserved c =
    let board = c.args.shared.now.board.now in
    let S = c.args.shared.now.start.now in
    let R = c.args.shared.now.reads.now in
    let k = c.loop-before.before in
    let some : 1 ≤ board.workers - k =
    (let t = c.loop-before-test.true in let n = c.workers-before-end.ensures.value in
    omega arith) in
    let less : (board.workers - k) - 1 ≡ board.workers - (k + 1) = omega arith in
    let e = c.in_ok-pass.ensures {u = tt} in
    let ends =
    (next-ended board S R (λ x. roles.Worker x) (k + 1)
    (board.workers - k) [] c.loop-before.ends.items some c.loop-before.invariant.ends).1 in
    record {
      worked = e.worked;
      joined = joined-more c.args.pass c.loop-before.pass c.in_ok-pass.pass
          c.loop-before.invariant.joined e.joined;
      ends = subst
          (λ (z : ℕ × List (Result Part NoMemory)). HaveEnded board S R
          (map (λ x. roles.Worker x) (range_with_len (k + 1 + 1) z.0) ++ []) z.1)
          (λ t. (less t, sym e.ends t)) ends;
    }
