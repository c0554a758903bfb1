use Rattle.std.proofs.Common.{◌≡◌, ◌∙◌, ◌+◌, ◌-◌, ◌≤◌, ℕ, ap, sym, arith}
use Rattle.c5_rows.specs.Numbers.{numbers_from}
use Rattle.c5_board.specs.Boards.{names}
use Rattle.c5_definitions.specs.Turns.{after_worker_turns}
use Rattle.c5_replay.specs.TurnStates.{machine_of}
use Rattle.c5_replay.proofs.MachineLemmas.{worker-turns-more, worker-turns-none}
use Rattle.c5_replay.proofs.closing.take_all_worker_turns.Goals as goal

pub loop-before-preserved : goal.loop-before-preserved
loop-before-preserved c =
    let ns = names c.args.shared.now.board.now in
    let n = c.args.shared.now.board.now.workers in
    let k = c.loop-before.before in
    let old = machine_of c.loop-before.turning in
    let new = machine_of c.take_worker_turn.new.turning in
    let some : 1 ≤ n - k =
    (let t = c.loop-before-test.true in let v = c.workers-before-end.ensures.value in
    omega arith) in
    let less : (n - k) - 1 ≡ n - (k + 1) = omega arith in
    record {
      fits = c.take_worker_turn.ensures.fits;
      machine = sym (worker-turns-more ns old new (k + 1) (n - k) some
          c.take_worker_turn.ensures.machine
          ∙ ap (λ (m : ℕ). after_worker_turns ns new (numbers_from (k + 1 + 1) m)) less)
          ∙ c.loop-before.invariant.machine;
    }

pub returns-clause-machine : goal.returns-clause-machine
returns-clause-machine c =
    let n = c.args.shared.now.board.now.workers in
    let k = c.loop-before.before in
    let none : n - k ≡ 0 =
    (let t = c.loop-before-test.false in let v = c.workers-before-end.ensures.value in
    omega arith) in
    sym (worker-turns-none (names c.args.shared.now.board.now) (machine_of c.loop-before.turning)
    (k + 1) (n - k) none) ∙ c.loop-before.invariant.machine
