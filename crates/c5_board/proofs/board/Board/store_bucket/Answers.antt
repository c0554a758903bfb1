use Rattle.std.proofs.Common.{◌≡◌, ◌+◌, ◌<◌, true, arith, ap, subst, sym, refl, ◌∙◌}
use Rattle.c5_definitions.specs.WriteNumbers.{IsFirstWrite}
use Rattle.c5_definitions.specs.RowIndex.{IsSlot}
use Rattle.c5_board.specs.Words.{bucket_word}
use Rattle.c5_board.specs.Boards.{Board, Pass, names}
use Rattle.c5_board.specs.StepFacts.{stores_bucket}
use Rattle.c5_board.proofs.StoreSteps.{stores_bucket_step}
use Rattle.c5_board.proofs.CallLemmas.{met, same_board, store_requires}
use Rattle.c5_board.proofs.board.Board.store_bucket.Goals as goal

pub store-requires : goal.store-requires
store-requires c =
    let b = c.self.inside in
    let me = c.pass.inside.seat.me in
    let table = c.pass.inside.seat.table_id in
    let id = c.pass.inside.seat.id in
    let slots = c.self.inside.table.shared.table_id.slots in
    let q = same_board c.args.self.now c.args.pass.now _ c.pass.view_is c.requires.pass in
    let m = met c.self.inside c.self.invariant c.pass.inside.seat.table_id c.pass.inside.seat.me.0
    (c.self.view_is ∙ q) in
    let role = subst (λ (p : Pass). p.scheduler ≡ true) (sym c.pass.view_is) c.requires.role in
    let next = subst (λ (p : Pass). c.args.w ≡ p.scheduled + 1)
    (sym c.pass.view_is) c.requires.next in
    let ready = subst (λ (p : Pass). p.written ≡ p.scheduled)
    (sym c.pass.view_is) c.requires.ready in
    let above = subst (λ (p : Pass). p.indexed < c.args.w) (sym c.pass.view_is) c.requires.above in
    let is = subst (λ (z : Board). IsFirstWrite (names z) c.args.w) q c.requires.first in
    let slot = subst (λ (z : Board). IsSlot (names z) c.args.w c.args.j) q c.requires.slot in
    let below = slot.within in
    store_requires b table me m id stores_bucket c.bucket_word.result
    (bucket_word me.0.log me.0.workers c.args.j) c.args.w c.args.w
    (c.bucket_word.ensures ∙ ap (λ (z : Board). bucket_word z.log z.workers c.args.j) q) refl
    (omega arith)
    (stores_bucket_step me m.plan slots id c.args.j c.args.w role ready next is above slot)
