use Rattle.std.proofs.Common.{◌≤◌, arith, ap, subst, sym, ◌∙◌}
use Rattle.c5_definitions.specs.WriteNumbers.{names_in, IsWrite}
use Rattle.c5_board.specs.declared.known.Look.TheVariants.{LoadRecord}
use Rattle.c5_board.specs.Words.{record_word}
use Rattle.c5_board.specs.Boards.{Board, Pass, names, record_of}
use Rattle.c5_board.specs.StepFacts.{loads_record}
use Rattle.c5_board.proofs.LoadSteps.{loads_record_step}
use Rattle.c5_board.proofs.CallLemmas.{met, same_board, load_requires}
use Rattle.c5_board.proofs.PassLemmas.{still_pass, looked_pass}
use Rattle.c5_board.proofs.board.Board.load_record.Goals as goal

pub load-word-requires : goal.load-word-requires
load-word-requires c =
    let b = c.self.inside in
    let me = c.pass.inside.seat.me in
    let table = c.pass.inside.seat.table_id in
    let id = c.pass.inside.seat.id in
    let slots = c.self.inside.table.shared.table_id.slots in
    let q = same_board c.args.self.now c.args.pass.now _ c.pass.view_is c.requires.pass in
    let m = met c.self.inside c.self.invariant c.pass.inside.seat.table_id c.pass.inside.seat.me.0
    (c.self.view_is ∙ q) in
    let within = subst (λ (p : Pass). c.args.w ≤ p.scheduled)
    (sym c.pass.view_is) c.requires.write.1 in
    let most = c.pass.invariant.sound.scheduled in
    let is : IsWrite (names_in me.0.log.txns) c.args.w =
    record { positive = c.requires.write.0; within = omega arith } in
    let some_w = is.positive in let w_within = is.within in
    load_requires b table me m id loads_record c.record_word.result (record_word me.0.log c.args.w)
    (c.record_word.ensures ∙ ap (λ (z : Board). record_word z.log c.args.w) q) (omega arith)
    (loads_record_step me m.plan slots id c.args.w is within)

pub unpacked-requires : goal.unpacked-requires
unpacked-requires c =
    let q = same_board c.args.self.now c.args.pass.now _ c.pass.view_is c.requires.pass in
    let me = c.pass.inside.seat.me in
    let m = met c.self.inside c.self.invariant c.pass.inside.seat.table_id c.pass.inside.seat.me.0
    (c.self.view_is ∙ q) in
    let within = subst (λ (p : Pass). c.args.w ≤ p.scheduled)
    (sym c.pass.view_is) c.requires.write.1 in
    let most = c.pass.invariant.sound.scheduled in
    let is : IsWrite (names_in me.0.log.txns) c.args.w =
    record { positive = c.requires.write.0; within = omega arith } in
    let word = c.record_word.ensures ∙ ap (λ (z : Board). record_word z.log c.args.w) q in
    let told = c.load-word.ensures.2 c.args.w is word in
    let few = m.plan.planned.writes in
    let row = m.plan.rows.not_above c.args.w in
    let before = m.plan.predecessors.below c.args.w is in
    let w_within = is.within in
    let packs = told.1 in
    (omega arith, omega arith)

pub invariant_of-pass : goal.invariant_of-pass
invariant_of-pass c =
    let q = same_board c.args.self.now c.args.pass.now _ c.pass.view_is c.requires.pass in
    let me = c.pass.inside.seat.me in
    let m = met c.self.inside c.self.invariant c.pass.inside.seat.table_id c.pass.inside.seat.me.0
    (c.self.view_is ∙ q) in
    let within = subst (λ (p : Pass). c.args.w ≤ p.scheduled)
    (sym c.pass.view_is) c.requires.write.1 in
    let most = c.pass.invariant.sound.scheduled in
    let is : IsWrite (names_in me.0.log.txns) c.args.w =
    record { positive = c.requires.write.0; within = omega arith } in
    let word = c.record_word.ensures ∙ ap (λ (z : Board). record_word z.log c.args.w) q in
    let told = c.load-word.ensures.2 c.args.w is word in
    let few = m.plan.planned.writes in
    let row = m.plan.rows.not_above c.args.w in
    let before = m.plan.predecessors.below c.args.w is in
    let w_within = is.within in
    let packs = told.1 in
    still_pass c.pass.inside _ _ c.pass.invariant.place c.pass.invariant.no_slots told.0

pub returns-clause-record : goal.returns-clause-record
returns-clause-record c =
    let q = same_board c.args.self.now c.args.pass.now _ c.pass.view_is c.requires.pass in
    let me = c.pass.inside.seat.me in
    let m = met c.self.inside c.self.invariant c.pass.inside.seat.table_id c.pass.inside.seat.me.0
    (c.self.view_is ∙ q) in
    let within = subst (λ (p : Pass). c.args.w ≤ p.scheduled)
    (sym c.pass.view_is) c.requires.write.1 in
    let most = c.pass.invariant.sound.scheduled in
    let is : IsWrite (names_in me.0.log.txns) c.args.w =
    record { positive = c.requires.write.0; within = omega arith } in
    let word = c.record_word.ensures ∙ ap (λ (z : Board). record_word z.log c.args.w) q in
    let told = c.load-word.ensures.2 c.args.w is word in
    let few = m.plan.planned.writes in
    let row = m.plan.rows.not_above c.args.w in
    let before = m.plan.predecessors.below c.args.w is in
    let w_within = is.within in
    let packs = told.1 in
    c.unpacked.ensures (record_of (names_in me.0.log.txns) c.args.w) packs (omega arith) ∙ ap
    (λ (z : Board). record_of (names z) c.args.w) (sym q)

pub returns-clause-pass : goal.returns-clause-pass
returns-clause-pass c =
    let q = same_board c.args.self.now c.args.pass.now _ c.pass.view_is c.requires.pass in
    let me = c.pass.inside.seat.me in
    let m = met c.self.inside c.self.invariant c.pass.inside.seat.table_id c.pass.inside.seat.me.0
    (c.self.view_is ∙ q) in
    let within = subst (λ (p : Pass). c.args.w ≤ p.scheduled)
    (sym c.pass.view_is) c.requires.write.1 in
    let most = c.pass.invariant.sound.scheduled in
    let is : IsWrite (names_in me.0.log.txns) c.args.w =
    record { positive = c.requires.write.0; within = omega arith } in
    let word = c.record_word.ensures ∙ ap (λ (z : Board). record_word z.log c.args.w) q in
    let told = c.load-word.ensures.2 c.args.w is word in
    let few = m.plan.planned.writes in
    let row = m.plan.rows.not_above c.args.w in
    let before = m.plan.predecessors.below c.args.w is in
    let w_within = is.within in
    let packs = told.1 in
    looked_pass c.pass.inside
    (record { place = c.pass.inside.place; seat = c.load-word.new.seat }) c.args.pass.now
    c.pass.view_is c.load-word.ensures.0 _ _
    (ap (LoadRecord c.args.w)
    (sym (c.unpacked.ensures (record_of (names_in me.0.log.txns) c.args.w) packs
    (omega arith)))) told.0.0
