use Rattle.std.proofs.Common.{◌≡◌, ◌≤◌, ◌<◌, ◌+◌, ℕ, true, inl, inr, length, ap, sym, ◌∙◌, arith}
use Rattle.std.proofs.Common.{subst, refl}
use Rattle.c5_definitions.specs.WriteNumbers.{end_of}
use Rattle.c5_board.specs.Boards.{Pass, Board}
use Rattle.c5_snapshot.proofs.Loads.{HasLoaded-none, HasLoaded-more, HasLoaded-min}
use Rattle.c5_snapshot.proofs.advancing.load_least.Goals as goal

pub loop-before-init : goal.loop-before-init
loop-before-init c =
    let e = c.load_progress-least.ensures.pass in
    let few : 0 + 1 ≤ length c.args.pass.now.floors =
    omega (
      arith,
      c.place-place.ensures.sound.count,
      ap (λ (b : Board). b.workers) c.requires.pass,
    ) in
    let above : end_of c.args.pass.now.board.log.txns c.args.pass.now.place <
    c.load_progress-least.result =
    subst (λ (b : Board). end_of b.log.txns c.args.pass.now.place < c.load_progress-least.result)
    (sym c.requires.pass) (c.load_progress-least.ensures.above c.requires.role) in
    let some = c.load_progress-least.ensures.positive in
    record {
      loaded = HasLoaded-more c.args.pass.now c.args.pass.now c.load_progress-least.new.pass 0 1
          c.load_progress-least.result c.load_progress-least.result
          (HasLoaded-none c.args.pass.now) e few
          c.load_progress-least.ensures.least some c.load_progress-least.ensures.own above some
          (omega arith) (λ h. absurd (omega arith)) (inl refl);
      board = ap (λ (p : Pass). p.board) e ∙ c.requires.pass;
      role = ap (λ (p : Pass). p.snapshot) e ∙ c.requires.role;
    }

pub loop-before-preserved : goal.loop-before-preserved
loop-before-preserved c =
    let e = c.load_progress.ensures.pass in
    let few : c.loop-before.before + 1 ≤ length c.loop-before.pass.floors =
    omega (
      arith,
      c.loop-before.invariant.loaded.count,
      c.place-place.ensures.sound.count,
      ap (λ (b : Board). b.workers) c.requires.pass,
    ) in
    let above : end_of c.loop-before.pass.board.log.txns c.loop-before.pass.place <
    c.load_progress.result =
    subst (λ (b : Board). end_of b.log.txns c.loop-before.pass.place < c.load_progress.result)
    (sym c.loop-before.invariant.board)
    (c.load_progress.ensures.above c.loop-before.invariant.role) in
    record {
      loaded = HasLoaded-min c.args.pass.now c.loop-before.pass c.load_progress.new.pass
          c.loop-before.before c.loop-before.least c.load_progress.result c.lesser-least.result
          c.loop-before.invariant.loaded e few
          c.load_progress.ensures.least c.load_progress.ensures.positive c.load_progress.ensures.own
          above c.lesser-least.ensures (omega arith);
      board = ap (λ (p : Pass). p.board) e ∙ c.loop-before.invariant.board;
      role = ap (λ (p : Pass). p.snapshot) e ∙ c.loop-before.invariant.role;
    }
