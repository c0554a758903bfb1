use Rattle.std.proofs.Common.{arith, ap, subst, ◌∙◌}
use Rattle.c5_board.specs.Words.{progress_word}
use Rattle.c5_board.specs.Boards.{Board, IsWorker}
use Rattle.c5_board.specs.StepFacts.{loads_progress}
use Rattle.c5_board.proofs.LoadSteps.{loads_progress_step}
use Rattle.c5_board.proofs.CallLemmas.{met, same_board, load_requires}
use Rattle.c5_board.proofs.PassLemmas.{still_pass}
use Rattle.c5_board.proofs.board.Board.load_progress.Goals as goal

pub load-requires : goal.load-requires
load-requires c =
    let b = c.self.inside in
    let me = c.pass.inside.seat.me in
    let table = c.pass.inside.seat.table_id in
    let id = c.pass.inside.seat.id in
    let slots = c.self.inside.table.shared.table_id.slots in
    let q = same_board c.args.self.now c.args.pass.now _ c.pass.view_is c.requires.pass in
    let m = met c.self.inside c.self.invariant c.pass.inside.seat.table_id c.pass.inside.seat.me.0
    (c.self.view_is ∙ q) in
    let is : IsWorker me.0.workers c.args.i =
    subst (λ (z : Board). IsWorker z.workers c.args.i) q c.requires.worker in
    let i_some = is.0 in let i_within = is.1 in
    load_requires b table me m id loads_progress c.progress_word.result
    (progress_word me.0.log c.args.i)
    (c.progress_word.ensures ∙ ap (λ (z : Board). progress_word z.log c.args.i) q) (omega arith)
    (loads_progress_step me m.plan slots id c.args.i is)

pub invariant_of-pass : goal.invariant_of-pass
invariant_of-pass c =
    let q = same_board c.args.self.now c.args.pass.now _ c.pass.view_is c.requires.pass in
    let is = subst (λ (z : Board). IsWorker z.workers c.args.i) q c.requires.worker in
    let word = c.progress_word.ensures ∙ ap (λ (z : Board). progress_word z.log c.args.i) q in
    still_pass c.pass.inside _ _ c.pass.invariant.place c.pass.invariant.no_slots
    (c.load.ensures.2 c.args.i is word).0
