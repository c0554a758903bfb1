use Rattle.std.proofs.Common.{◌≡◌, true, arith, ap, subst, sym, refl, ◌∙◌}
use Rattle.c5_rows.specs.Numbers.{is_among}
use Rattle.c5_board.specs.Words.{progress_word}
use Rattle.c5_board.specs.Boards.{Board, Pass}
use Rattle.c5_board.specs.Passes.{IsOutstanding}
use Rattle.c5_board.specs.StepFacts.{stores_progress}
use Rattle.c5_board.proofs.StoreSteps.{stores_progress_step}
use Rattle.c5_board.proofs.CallLemmas.{met, same_board, store_requires}
use Rattle.c5_board.proofs.PassLemmas.{still_pass}
use Rattle.c5_board.proofs.board.Board.store_progress.Goals as goal

pub store-requires : goal.store-requires
store-requires c =
    let b = c.self.inside in
    let me = c.pass.inside.seat.me in
    let table = c.pass.inside.seat.table_id in
    let id = c.pass.inside.seat.id in
    let slots = c.self.inside.table.shared.table_id.slots in
    let q = same_board c.args.self.now c.args.pass.now _ c.pass.view_is c.requires.pass in
    let m = met c.self.inside c.self.invariant c.pass.inside.seat.table_id c.pass.inside.seat.me.0
    (c.self.view_is ∙ q) in
    let role = subst (λ (p : Pass). is_among c.args.i p.roles ≡ true)
    (sym c.pass.view_is) c.requires.role in
    let least = subst (λ (p : Pass). IsOutstanding p c.args.i c.args.x)
    (sym c.pass.view_is) c.requires.least in
    let is = c.pass.invariant.sound.workers c.args.i role in
    let i_some = is.0 in let i_within = is.1 in
    store_requires b table me m id stores_progress c.progress_word.result
    (progress_word me.0.log c.args.i) c.args.x c.args.x
    (c.progress_word.ensures ∙ ap (λ (z : Board). progress_word z.log c.args.i) q) refl
    (omega arith)
    (stores_progress_step me m.plan slots id c.args.i c.args.x role is least.positive least.owned
    least.not_installed (λ w some_w below own. least.least w some_w below own))

pub invariant_of-pass : goal.invariant_of-pass
invariant_of-pass c =
    let q = same_board c.args.self.now c.args.pass.now _ c.pass.view_is c.requires.pass in
    let role = subst (λ (p : Pass). is_among c.args.i p.roles ≡ true)
    (sym c.pass.view_is) c.requires.role in
    let is = c.pass.invariant.sound.workers c.args.i role in
    let word = c.progress_word.ensures ∙ ap (λ (z : Board). progress_word z.log c.args.i) q in
    still_pass c.pass.inside _ _ c.pass.invariant.place c.pass.invariant.no_slots
    (c.store.ensures.2 c.args.i is word)
