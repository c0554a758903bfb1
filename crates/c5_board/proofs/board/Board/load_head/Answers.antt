use Rattle.std.proofs.Common.{◌-◌, arith, subst, refl, ◌∙◌}
use Rattle.c5_definitions.specs.WriteNumbers.{IsFirstWrite}
use Rattle.c5_board.specs.Words.{head_word}
use Rattle.c5_board.specs.Boards.{Board, Pass, names}
use Rattle.c5_board.specs.Passes.{CoversRow}
use Rattle.c5_board.specs.StepFacts.{loads_head}
use Rattle.c5_board.proofs.LoadSteps.{loads_head_step}
use Rattle.c5_board.proofs.CallLemmas.{met, same_board, load_requires}
use Rattle.c5_board.proofs.board.Board.load_head.Goals as goal

pub load-requires : goal.load-requires
load-requires c =
    let b = c.self.inside in
    let me = c.pass.inside.seat.me in
    let table = c.pass.inside.seat.table_id in
    let id = c.pass.inside.seat.id in
    let slots = c.self.inside.table.shared.table_id.slots in
    let q = same_board c.args.self.now c.args.pass.now _ c.pass.view_is c.requires.pass in
    let m = met c.self.inside c.self.invariant c.pass.inside.seat.table_id c.pass.inside.seat.me.0
    (c.self.view_is ∙ q) in
    let is = subst (λ (z : Board). IsFirstWrite (names z) c.args.row) q c.requires.row in
    let positive = is.write.positive in let within = is.write.within in
    load_requires b table me m id loads_head (c.args.row - 1) (head_word c.args.row) refl
    (omega arith) (loads_head_step me m.plan slots id c.args.row is)

pub returns-clause-covers : goal.returns-clause-covers
returns-clause-covers c =
    let q = same_board c.args.self.now c.args.pass.now _ c.pass.view_is c.requires.pass in
    let is = subst (λ (z : Board). IsFirstWrite (names z) c.args.row) q c.requires.row in
    let told = c.load.ensures.2 c.args.row is refl in
    subst (λ (p : Pass). CoversRow p c.args.row c.load.result) c.pass.view_is
    (told.2 c.pass.inside.seat.table_id)
