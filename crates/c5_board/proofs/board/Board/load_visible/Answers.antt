use Rattle.std.proofs.Common.{arith, ap, refl, ◌∙◌}
use Rattle.c5_board.specs.Words.{visible_word}
use Rattle.c5_board.specs.Boards.{Board}
use Rattle.c5_board.specs.StepFacts.{loads_visible}
use Rattle.c5_board.proofs.LoadSteps.{loads_visible_step}
use Rattle.c5_board.proofs.CallLemmas.{met, same_board, load_requires}
use Rattle.c5_board.proofs.PassLemmas.{still_pass}
use Rattle.c5_board.proofs.board.Board.load_visible.Goals as goal

pub load-place-requires : goal.load-place-requires
load-place-requires c =
    let b = c.self.inside in
    let me = c.pass.inside.seat.me in
    let table = c.pass.inside.seat.table_id in
    let id = c.pass.inside.seat.id in
    let slots = c.self.inside.table.shared.table_id.slots in
    let q = same_board c.args.self.now c.args.pass.now _ c.pass.view_is c.requires in
    let m = met c.self.inside c.self.invariant c.pass.inside.seat.table_id c.pass.inside.seat.me.0
    (c.self.view_is ∙ q) in
    load_requires b table me m id loads_visible c.visible_word.result
    (visible_word me.0.log me.0.workers)
    (c.visible_word.ensures ∙ ap (λ (z : Board). visible_word z.log z.workers) q) (omega arith)
    (loads_visible_step me m.plan slots id)

pub invariant_of-pass : goal.invariant_of-pass
invariant_of-pass c =
    still_pass c.pass.inside _ _ refl c.pass.invariant.no_slots c.load-place.ensures.2.0
