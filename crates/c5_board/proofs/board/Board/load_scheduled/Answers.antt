use Rattle.std.proofs.Common.{arith, ap, ◌∙◌}
use Rattle.c5_board.specs.Words.{scheduled_word}
use Rattle.c5_board.specs.Boards.{Board}
use Rattle.c5_board.specs.StepFacts.{loads_scheduled}
use Rattle.c5_board.proofs.LoadSteps.{loads_scheduled_step}
use Rattle.c5_board.proofs.CallLemmas.{met, same_board, load_requires}
use Rattle.c5_board.proofs.board.Board.load_scheduled.Goals as goal

pub load-requires : goal.load-requires
load-requires c =
    let b = c.self.inside in
    let me = c.pass.inside.seat.me in
    let table = c.pass.inside.seat.table_id in
    let id = c.pass.inside.seat.id in
    let slots = c.self.inside.table.shared.table_id.slots in
    let q = same_board c.args.self.now c.args.pass.now _ c.pass.view_is c.requires in
    let m = met c.self.inside c.self.invariant c.pass.inside.seat.table_id c.pass.inside.seat.me.0
    (c.self.view_is ∙ q) in
    load_requires b table me m id loads_scheduled c.scheduled_word.result
    (scheduled_word me.0.log me.0.workers)
    (c.scheduled_word.ensures.value ∙ ap (λ (z : Board). scheduled_word z.log z.workers) q)
    (omega arith)
    (loads_scheduled_step me m.plan slots id)
