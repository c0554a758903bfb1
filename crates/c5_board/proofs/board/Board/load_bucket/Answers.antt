use Rattle.std.proofs.Common.{◌<◌, length, arith, ap, subst, ◌∙◌}
use Rattle.c5_definitions.specs.RowIndex.{bucket_count}
use mathlib.Core.Logic.{dite}
use native.Mathlib.Decide.{ℕ_discrete}
use Rattle.c5_board.specs.Words.{bucket_word}
use Rattle.c5_board.specs.Boards.{Board, names}
use Rattle.c5_board.specs.StepFacts.{loads_bucket}
use Rattle.c5_board.proofs.LoadSteps.{loads_bucket_step}
use Rattle.c5_board.proofs.CallLemmas.{met, same_board, load_requires}
use Rattle.c5_board.proofs.PassLemmas.{still_pass}
use Rattle.c5_board.proofs.board.Board.load_bucket.Goals as goal

pub load-requires : goal.load-requires
load-requires c =
    let b = c.self.inside in
    let me = c.pass.inside.seat.me in
    let table = c.pass.inside.seat.table_id in
    let id = c.pass.inside.seat.id in
    let slots = c.self.inside.table.shared.table_id.slots in
    let q = same_board c.args.self.now c.args.pass.now _ c.pass.view_is c.requires.pass in
    let m = met c.self.inside c.self.invariant c.pass.inside.seat.table_id c.pass.inside.seat.me.0
    (c.self.view_is ∙ q) in
    let below =
    subst (λ (z : Board). c.args.j < bucket_count (length (names z))) q c.requires.bucket in
    load_requires b table me m id loads_bucket c.bucket_word.result
    (bucket_word me.0.log me.0.workers c.args.j)
    (c.bucket_word.ensures ∙ ap (λ (z : Board). bucket_word z.log z.workers c.args.j) q)
    (omega arith)
    (loads_bucket_step me m.plan slots id c.args.j below)

pub invariant_of-pass : goal.invariant_of-pass
invariant_of-pass c =
    let q = same_board c.args.self.now c.args.pass.now _ c.pass.view_is c.requires.pass in
    let below =
    subst (λ (z : Board). c.args.j < bucket_count (length (names z))) q c.requires.bucket in
    let word = c.bucket_word.ensures ∙ ap (λ (z : Board). bucket_word z.log z.workers c.args.j) q in
    still_pass c.pass.inside _ _ c.pass.invariant.place c.pass.invariant.no_slots
    (c.load.ensures.2 c.args.j below word).0

pub overflow_cast-result : goal.overflow_cast-result
overflow_cast-result c =
    let q = same_board c.args.self.now c.args.pass.now _ c.pass.view_is c.requires.pass in
    let m = met c.self.inside c.self.invariant c.pass.inside.seat.table_id c.pass.inside.seat.me.0
    (c.self.view_is ∙ q) in
    let below =
    subst (λ (z : Board). c.args.j < bucket_count (length (names z))) q c.requires.bucket in
    let word = c.bucket_word.ensures ∙ ap (λ (z : Board). bucket_word z.log z.workers c.args.j) q in
    let told = c.load.ensures.2 c.args.j below word in
    let few = m.plan.planned.writes in
    dite (ℕ_discrete c.load.result 0) (λ z. omega arith)
    (λ ne. let e = told.1 ne in let first = m.plan.index.first c.args.j below (λ z. ne (e ∙ z)) in
    let within = first.write.within in omega arith)
