use Rattle.std.proofs.Common.{◌≡◌, ◌∙◌, ◌+◌, ◌-◌, ◌≤◌, [], ◌∷◌, List, ℕ, ap, sym, subst, refl}
use Rattle.std.proofs.Common.{arith}
use Rattle.c5_rows.specs.Numbers.{is_among, numbers_from}
use Rattle.c5_io.specs.declared.gate.Role.TheVariants as roles
use Rattle.c5_board.proofs.SetLemmas.{range_has}
use Rattle.c5_replay.specs.declared.part.Part.{Part}
use Rattle.c5_replay.specs.declared.part.Part.TheVariants as parts
use Rattle.c5_replay.specs.Parts.{IsPassWith, Plays, ArePlaying}
use Rattle.c5_replay.proofs.Within.{all-append}
use Rattle.c5_replay.proofs.SplitLemmas.{roles-more, rest-with, rest-none, worker-plays}
use Rattle.c5_replay.proofs.splitting.add_workers.Goals as goal

pub split_worker-rest-requires-clause-role : goal.split_worker-rest-requires-clause-role
split_worker-rest-requires-clause-role c =
    let k = c.loop-before.before in
    let n = c.args.board.now.workers in
    let t = c.loop-before-test.true in
    let v = c.workers-workers.ensures.value in
    ap (λ (l : List ℕ). is_among (k + 1) l) c.loop-before.invariant.pass.roles_so ∙ range_has
    (k + 1) (k + 1) (n - k) (omega arith) (omega arith)

pub loop-before-preserved : goal.loop-before-preserved
loop-before-preserved c =
    let inv = c.loop-before.invariant in
    let board = c.args.board.now in
    let k = c.loop-before.before in
    let i = k + 1 in
    let p = c.loop-before.pass in
    let rest = c.split_worker-rest.result.0 in
    let own = c.split_worker-rest.result.1 in
    let items = c.in_ok-add.ensures {u = tt} in
    let part = parts.Worker i own c.in_ok-worker.worker in
    let some : 1 ≤ board.workers - k =
    (let t = c.loop-before-test.true in let v = c.workers-workers.ensures.value in
    omega arith) in
    let less : (board.workers - k) - 1 ≡ board.workers - (k + 1) = omega arith in
    record {
      pass = subst (λ (n : ℕ). IsPassWith board (numbers_from (k + 1 + 1) n) rest) less
          (rest-with board p rest i
          (board.workers - k) some inv.pass c.split_worker-rest.ensures.rest);
      none = rest-none p rest i inv.none c.split_worker-rest.ensures.rest;
      parts = λ start h. subst (λ (l : List Part). ArePlaying board start l) (sym items)
          (all-append (Plays board start []) c.loop-before.parts.items (part ∷ [])
          (inv.parts start h) (
            worker-plays board p own _ i c.workers-workers.result c.in_ok-worker.worker inv.pass
                inv.none c.workers-workers.ensures.value
                (c.in_ok-worker.ensures {u = tt}).fits c.split_worker-rest.ensures.part,
            tt,
          ));
      roles = roles-more
          (λ x. roles.Worker x) c.loop-before.parts.items c.add.new.parts.items _ part k items refl
          inv.roles;
    }
