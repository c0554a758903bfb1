use Rattle.std.proofs.Common.{◌≡◌, ◌+◌, true, arith, ap, subst, sym, refl, ◌∙◌}
use Rattle.c5_definitions.specs.WriteNumbers.{names_in, IsFirstWrite}
use Rattle.c5_board.specs.Words.{scheduled_word}
use Rattle.c5_board.specs.Boards.{Board, Pass, names}
use Rattle.c5_board.specs.StepFacts.{stores_scheduled}
use Rattle.c5_board.proofs.StoreSteps.{stores_scheduled_step}
use Rattle.c5_board.proofs.CallLemmas.{met, same_board, store_requires}
use Rattle.c5_board.proofs.PassLemmas.{still_pass}
use Rattle.c5_board.proofs.board.Board.store_scheduled.Goals as goal

pub store-requires : goal.store-requires
store-requires c =
    let b = c.self.inside in
    let me = c.pass.inside.seat.me in
    let table = c.pass.inside.seat.table_id in
    let id = c.pass.inside.seat.id in
    let slots = c.self.inside.table.shared.table_id.slots in
    let q = same_board c.args.self.now c.args.pass.now _ c.pass.view_is c.requires.pass in
    let m = met c.self.inside c.self.invariant c.pass.inside.seat.table_id c.pass.inside.seat.me.0
    (c.self.view_is ∙ q) in
    let role = subst (λ (p : Pass). p.scheduler ≡ true) (sym c.pass.view_is) c.requires.role in
    let next = subst (λ (p : Pass). c.args.w ≡ p.scheduled + 1)
    (sym c.pass.view_is) c.requires.next in
    let next_written = subst (λ (p : Pass). c.args.w ≡ p.written)
    (sym c.pass.view_is) c.requires.written in
    let first : IsFirstWrite (names_in me.0.log.txns) c.args.w
    → c.args.pass.now.indexed ≡ c.args.w =
    λ h. c.requires.indexed
    (subst (λ (z : Board). IsFirstWrite (names z) c.args.w) (sym q) h) in
    let indexed : IsFirstWrite (names_in me.0.log.txns) c.args.w
    → me.0.indexed ≡ c.args.w =
    λ h. subst (λ (p : Pass). p.indexed ≡ c.args.w) (sym c.pass.view_is) (first h) in
    store_requires b table me m id stores_scheduled c.scheduled_word.result
    (scheduled_word me.0.log me.0.workers) c.args.w c.args.w
    (c.scheduled_word.ensures.value ∙ ap (λ (z : Board). scheduled_word z.log z.workers) q) refl
    (omega arith)
    (stores_scheduled_step me m.plan slots id c.args.w role next_written next indexed)

pub invariant_of-pass : goal.invariant_of-pass
invariant_of-pass c =
    still_pass c.pass.inside _ _ c.pass.invariant.place c.pass.invariant.no_slots c.store.ensures.2
