use Rattle.std.proofs.Common.{◌≡◌, ◌+◌, ◌≤◌, true, length, arith, ap, subst, sym, ◌∙◌}
use Rattle.c5_definitions.specs.WriteNumbers.{names_in, IsWrite}
use Rattle.c5_board.specs.declared.known.Record.{Record}
use Rattle.c5_board.specs.Words.{record_word, packed}
use Rattle.c5_board.specs.Boards.{Board, Pass, names, record_of}
use Rattle.c5_board.specs.StepFacts.{stores_record}
use Rattle.c5_board.proofs.StoreSteps.{stores_record_step}
use Rattle.c5_board.proofs.CallLemmas.{met, same_board, store_requires}
use Rattle.c5_board.proofs.board.Board.store_record.Goals as goal

pub store-requires : goal.store-requires
store-requires c =
    let b = c.self.inside in
    let me = c.pass.inside.seat.me in
    let table = c.pass.inside.seat.table_id in
    let id = c.pass.inside.seat.id in
    let slots = c.self.inside.table.shared.table_id.slots in
    let q = same_board c.args.self.now c.args.pass.now _ c.pass.view_is c.requires.pass in
    let m = met c.self.inside c.self.invariant c.pass.inside.seat.table_id c.pass.inside.seat.me.0
    (c.self.view_is ∙ q) in
    let role = subst (λ (p : Pass). p.scheduler ≡ true) (sym c.pass.view_is) c.requires.role in
    let next = subst (λ (p : Pass). c.args.w ≡ p.scheduled + 1)
    (sym c.pass.view_is) c.requires.next in
    let ready = subst (λ (p : Pass). p.written ≡ p.scheduled)
    (sym c.pass.view_is) c.requires.ready in
    let is : IsWrite (names_in me.0.log.txns) c.args.w =
    record {
      positive = omega arith;
      within = subst (λ (z : Board). c.args.w ≤ length (names z)) q c.requires.within;
    } in
    let some_w = is.positive in let w_within = is.within in
    store_requires b table me m id stores_record c.record_word.result
    (record_word me.0.log c.args.w) c.packed.result
    (packed (record_of (names_in me.0.log.txns) c.args.w))
    (c.record_word.ensures ∙ ap (λ (z : Board). record_word z.log c.args.w) q)
    (c.packed.ensures ∙
    (ap packed c.requires.link ∙ ap (λ (z : Board). packed (record_of (names z) c.args.w)) q))
    (omega arith)
    (stores_record_step me m.plan slots id c.args.w role ready next is)

pub packed-requires : goal.packed-requires
packed-requires c =
    let q = same_board c.args.self.now c.args.pass.now _ c.pass.view_is c.requires.pass in
    let m = met c.self.inside c.self.invariant c.pass.inside.seat.table_id c.pass.inside.seat.me.0
    (c.self.view_is ∙ q) in
    let within = subst (λ (z : Board). c.args.w ≤ length (names z)) q c.requires.within in
    let link = c.requires.link ∙ ap (λ (z : Board). record_of (names z) c.args.w) q in
    let row = ap (λ (z : Record). z.row) link in
    let before = ap (λ (z : Record). z.predecessor) link in
    let few = m.plan.planned.writes in
    let is : IsWrite (names_in c.pass.inside.seat.me.0.log.txns) c.args.w =
    record { positive = omega (arith, c.requires.next); within = within } in
    let a = m.plan.rows.not_above c.args.w in
    let b = m.plan.predecessors.below c.args.w is in
    (omega arith, omega arith)
