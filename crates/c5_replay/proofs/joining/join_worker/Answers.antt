use Rattle.std.proofs.Common.{◌≡◌, ◌∙◌, ◌+◌, ◌-◌, ℕ, List, [], ◌∷◌, ap, sym, subst, arith}
use Rattle.c5_io.specs.declared.gate.Role.TheVariants as roles
use Rattle.c5_board.specs.Boards.{Pass}
use Rattle.c5_workers.specs.declared.worker.Worker.{Worker}
use Rattle.c5_replay.specs.Parts.{IsPassWith}
use Rattle.c5_replay.specs.Joins.{HaveWorked}
use Rattle.c5_replay.proofs.Ended.{ended-as, number_in}
use Rattle.c5_replay.proofs.JoinLemmas.{worked-more}
use Rattle.c5_replay.proofs.joining.join_worker.Goals as goal

pub returns-clause-worked : goal.returns-clause-worked
returns-clause-worked c =
    let board = c.args.shared.now.board.now in
    let i = c.args.i in
    let h = ended-as board c.args.shared.now.start.now c.args.shared.now.reads.now
    (roles.Worker i) _ _ c.in-Worker.is (c.in_ok-own.ensures {u = tt}).end in
    let number : c.in-Worker.i ≡ i = ap number_in h.0 in
    let with_i = subst (λ (n : ℕ). IsPassWith board (n ∷ []) c.in-Worker.own) number h.1.0 in
    let next : (i - 1) + 1 ≡ i = (let some = c.requires.some in omega arith) in
    subst (λ (z : Pass × List Worker). HaveWorked board z.0 i z.1)
    (λ t. (sym c.join.ensures t, sym (c.in_ok-push-in-Worker.ensures {u = tt}).items t))
    (worked-more board c.args.pass c.in-Worker.own
    (i - 1) i c.args.workers.now.items c.in-Worker.worker c.requires.worked next with_i h.1.1
    c.place-place.ensures.sound c.place-own_place.ensures.sound)
