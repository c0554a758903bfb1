use Rattle.std.proofs.Common.{◌≡◌, ℕ, ◌<◌, ◌≤◌, true, length, arith, ap, subst, sym, refl, ◌∙◌}
use Rattle.c5_definitions.specs.WriteNumbers.{end_of}
use Rattle.c5_board.specs.Sets.{number_of}
use Rattle.c5_board.specs.Words.{visible_word}
use Rattle.c5_board.specs.Boards.{Board, Pass, IsWorker}
use Rattle.c5_board.specs.StepFacts.{stores_visible}
use Rattle.c5_board.proofs.StoreSteps.{stores_visible_step}
use Rattle.c5_board.proofs.CallLemmas.{met, same_board, store_requires}
use Rattle.c5_board.proofs.PassLemmas.{still_pass}
use Rattle.c5_board.proofs.board.Board.store_visible.Goals as goal

pub store-requires : goal.store-requires
store-requires c =
    let b = c.self.inside in
    let me = c.pass.inside.seat.me in
    let table = c.pass.inside.seat.table_id in
    let id = c.pass.inside.seat.id in
    let slots = c.self.inside.table.shared.table_id.slots in
    let q = same_board c.args.self.now c.args.pass.now _ c.pass.view_is c.requires.pass in
    let m = met c.self.inside c.self.invariant c.pass.inside.seat.table_id c.pass.inside.seat.me.0
    (c.self.view_is ∙ q) in
    let role = subst (λ (p : Pass). p.snapshot ≡ true) (sym c.pass.view_is) c.requires.role in
    let place = subst (λ (z : Board). c.args.p ≤ length z.log.txns) q c.requires.place in
    let grows = subst (λ (z : Pass). z.place ≤ c.args.p) (sym c.pass.view_is) c.requires.least in
    let floors =
    subst (λ (z : Board). (i : ℕ) → IsWorker z.workers i
    → end_of z.log.txns c.args.p < number_of c.args.pass.now.floors i) q c.requires.installed in
    let below =
    subst (λ (z : Pass). (i : ℕ) → IsWorker me.0.workers i
    → end_of me.0.log.txns c.args.p < number_of z.floors i) (sym c.pass.view_is) floors in
    store_requires b table me m id stores_visible c.visible_word.result
    (visible_word me.0.log me.0.workers) c.args.p c.args.p
    (c.visible_word.ensures ∙ ap (λ (z : Board). visible_word z.log z.workers) q) refl
    (omega arith)
    (stores_visible_step me m.plan slots id c.args.p role place below grows)

pub invariant_of-pass : goal.invariant_of-pass
invariant_of-pass c = still_pass c.pass.inside _ _ refl c.pass.invariant.no_slots c.store.ensures.2
