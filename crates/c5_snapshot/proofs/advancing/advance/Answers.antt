use Rattle.std.proofs.Common.{◌≡◌, ◌≤◌, ◌<◌, ◌++◌, ℕ, List, true, length, take, max, ap, sym, ◌∙◌}
use Rattle.std.proofs.Common.{arith, subst, refl}
use Rattle.c5_definitions.specs.WriteNumbers.{end_of, place_below}
use Rattle.c5_board.specs.Boards.{Pass, Board}
use Rattle.c5_frames.specs.Log.{Log}
use Rattle.c5_snapshot.proofs.Loads.{pass-advanced, progress-loaded, least-found, below_least}
use Rattle.c5_snapshot.proofs.advancing.advance.Goals as goal

pub store_visible-requires-clause-least : goal.store_visible-requires-clause-least
store_visible-requires-clause-least c =
    let h = c.load_least-least.ensures.loaded in
    let kept = ap (λ (p : Pass). p.place) h.pass in
    let log = ap (λ (b : Board). b.log) c.requires.pass in
    let greatest : c.args.pass.now.place ≤ place_below c.args.pass.now.board.log.txns
    c.load_least-least.result =
    (c.number_law.ensures.places c.args.pass.now.board.log.txns).greatest c.load_least-least.result
    c.args.pass.now.place c.load_least-least.ensures.sound.place
    (below_least _ _ _ _ h (omega arith)) in
    let is = c.place_below-place.ensures ∙ ap
    (λ (l : Log). place_below l.txns c.load_least-least.result)
    (c.plan.ensures.log ∙ sym log) in
    omega arith

pub returns-clause-pass : goal.returns-clause-pass
returns-clause-pass c =
    pass-advanced _ _ _ _ _ _ _ c.load_least-least.ensures.loaded c.requires.pass
    c.load_least-least.ensures.sound.count refl c.store_visible.ensures

pub returns-clause-loads : goal.returns-clause-loads
returns-clause-loads c =
    progress-loaded _ _ _ _ _ _ _ c.load_least-least.ensures.loaded c.requires.pass
    c.load_least-least.ensures.sound.count refl c.store_visible.ensures

pub returns-clause-least : goal.returns-clause-least
returns-clause-least c =
    least-found _ _ _ _ _ _ _ c.load_least-least.ensures.loaded c.requires.pass
    c.load_least-least.ensures.sound.count refl c.store_visible.ensures (omega arith)

pub returns-clause-not_below : goal.returns-clause-not_below
returns-clause-not_below c =
    let h = c.load_least-least.ensures.loaded in
    let log = ap (λ (b : Board). b.log) c.requires.pass in
    let greatest : c.args.pass.now.place ≤ place_below c.args.pass.now.board.log.txns
    c.load_least-least.result =
    (c.number_law.ensures.places c.args.pass.now.board.log.txns).greatest c.load_least-least.result
    c.args.pass.now.place c.load_least-least.ensures.sound.place
    (below_least _ _ _ _ h (omega arith)) in
    let is = c.place_below-place.ensures ∙ ap
    (λ (l : Log). place_below l.txns c.load_least-least.result)
    (c.plan.ensures.log ∙ sym log) in
    omega arith
