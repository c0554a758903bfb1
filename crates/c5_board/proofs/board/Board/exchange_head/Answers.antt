use Rattle.std.proofs.Common.{◌≡◌, ℕ, ◌-◌, ◌≤◌, true, false, arith, ap, subst, sym, refl, ◌∙◌}
use Rattle.c5_definitions.specs.WriteNumbers.{names_in, row_of, predecessor_of, owner_of, IsWrite}
use mathlib.Core.Logic.{dite}
use native.Mathlib.Decide.{ℕ_discrete}
use Rattle.c5_board.specs.declared.known.Record.{Record}
use Rattle.c5_rows.specs.Numbers.{is_among}
use Rattle.c5_board.specs.Words.{head_word}
use Rattle.c5_board.specs.Boards.{Board, Pass, names, record_of}
use Rattle.c5_board.specs.Passes.{CoversRow}
use Rattle.c5_board.specs.StepFacts.{exchanges_head}
use Rattle.c5_board.proofs.ExchangeStep.{exchanges_head_step}
use Rattle.c5_board.proofs.CallLemmas.{met, same_board, exchange_requires}
use Rattle.c5_board.proofs.PassLemmas.{still_pass}
use Rattle.c5_board.proofs.board.Board.exchange_head.Goals as goal
use Rattle.c5_board.proofs.board.Board.exchange_head.Goals.{then-found-link, else-found-link}

pub compare_exchange-found-requires : goal.compare_exchange-found-requires
compare_exchange-found-requires c =
    let b = c.self.inside in
    let me = c.pass.inside.seat.me in
    let table = c.pass.inside.seat.table_id in
    let id = c.pass.inside.seat.id in
    let slots = c.self.inside.table.shared.table_id.slots in
    let q = same_board c.args.self.now c.args.pass.now _ c.pass.view_is c.requires.pass in
    let m = met c.self.inside c.self.invariant c.pass.inside.seat.table_id c.pass.inside.seat.me.0
    (c.self.view_is ∙ q) in
    let role = subst (λ (p : Pass). is_among (owner_of p.board.workers c.args.w) p.roles ≡ true)
    (sym c.pass.view_is) c.requires.role in
    let within = subst (λ (p : Pass). c.args.w ≤ p.scheduled)
    (sym c.pass.view_is) c.requires.write.1 in
    let fresh = subst (λ (p : Pass). is_among c.args.w p.installed ≡ false)
    (sym c.pass.view_is) c.requires.not_installed in
    let most = c.pass.invariant.sound.scheduled in
    let is : IsWrite (names_in me.0.log.txns) c.args.w =
    record { positive = c.requires.write.0; within = omega arith } in
    let link = c.requires.link ∙ ap (λ (z : Board). record_of (names z) c.args.w) q in
    let row : c.args.link.row ≡ row_of (names_in me.0.log.txns) c.args.w =
    ap (λ (z : Record). z.row) link in
    let before : c.args.link.predecessor ≡ predecessor_of (names_in me.0.log.txns) c.args.w =
    ap (λ (z : Record). z.predecessor) link in
    let first = m.plan.rows.first c.args.w is in let first_some = first.write.positive in
    let first_within = first.write.within in
    exchange_requires b table me m id exchanges_head (c.args.link.row - 1)
    (head_word (row_of (names_in me.0.log.txns) c.args.w)) c.args.link.predecessor
    (predecessor_of (names_in me.0.log.txns) c.args.w) c.args.w c.args.w
    (ap (λ (r : ℕ). r - 1) row) before refl (omega arith)
    (exchanges_head_step me m.plan slots id c.args.w is role within fresh)

pub overflow_sub-link : goal.overflow_sub-link
overflow_sub-link c =
    let q = same_board c.args.self.now c.args.pass.now _ c.pass.view_is c.requires.pass in
    let me = c.pass.inside.seat.me in
    let m = met c.self.inside c.self.invariant c.pass.inside.seat.table_id c.pass.inside.seat.me.0
    (c.self.view_is ∙ q) in
    let within = subst (λ (p : Pass). c.args.w ≤ p.scheduled)
    (sym c.pass.view_is) c.requires.write.1 in
    let most = c.pass.invariant.sound.scheduled in
    let is : IsWrite (names_in me.0.log.txns) c.args.w =
    record { positive = c.requires.write.0; within = omega arith } in
    let link = c.requires.link ∙ ap (λ (z : Board). record_of (names z) c.args.w) q in
    let row : c.args.link.row ≡ row_of (names_in me.0.log.txns) c.args.w =
    ap (λ (z : Record). z.row) link in
    let before : c.args.link.predecessor ≡ predecessor_of (names_in me.0.log.txns) c.args.w =
    ap (λ (z : Record). z.predecessor) link in
    let first = (m.plan.rows.first c.args.w is).write.positive in omega arith

pub invariant_of-pass : goal.invariant_of-pass
invariant_of-pass c =
    let q = same_board c.args.self.now c.args.pass.now _ c.pass.view_is c.requires.pass in
    let me = c.pass.inside.seat.me in
    let m = met c.self.inside c.self.invariant c.pass.inside.seat.table_id c.pass.inside.seat.me.0
    (c.self.view_is ∙ q) in
    let within = subst (λ (p : Pass). c.args.w ≤ p.scheduled)
    (sym c.pass.view_is) c.requires.write.1 in
    let most = c.pass.invariant.sound.scheduled in
    let is : IsWrite (names_in me.0.log.txns) c.args.w =
    record { positive = c.requires.write.0; within = omega arith } in
    let link = c.requires.link ∙ ap (λ (z : Board). record_of (names z) c.args.w) q in
    let row : c.args.link.row ≡ row_of (names_in me.0.log.txns) c.args.w =
    ap (λ (z : Record). z.row) link in
    let before : c.args.link.predecessor ≡ predecessor_of (names_in me.0.log.txns) c.args.w =
    ap (λ (z : Record). z.predecessor) link in
    let told = c.compare_exchange-found.ensures.2 c.args.w is
    (ap (λ (r : ℕ). r - 1) row) before refl in
    dite (ℕ_discrete c.compare_exchange-found.result c.args.link.predecessor)
    (λ hit. still_pass c.pass.inside _ _ c.pass.invariant.place c.pass.invariant.no_slots
    (told.0 hit))
    (λ miss. still_pass c.pass.inside _ _ c.pass.invariant.place c.pass.invariant.no_slots
    (told.1 miss).0)

pub returns-clause-covers : goal.returns-clause-covers
returns-clause-covers c =
    let q = same_board c.args.self.now c.args.pass.now _ c.pass.view_is c.requires.pass in
    let me = c.pass.inside.seat.me in
    let m = met c.self.inside c.self.invariant c.pass.inside.seat.table_id c.pass.inside.seat.me.0
    (c.self.view_is ∙ q) in
    let within = subst (λ (p : Pass). c.args.w ≤ p.scheduled)
    (sym c.pass.view_is) c.requires.write.1 in
    let most = c.pass.invariant.sound.scheduled in
    let is : IsWrite (names_in me.0.log.txns) c.args.w =
    record { positive = c.requires.write.0; within = omega arith } in
    let link = c.requires.link ∙ ap (λ (z : Board). record_of (names z) c.args.w) q in
    let row : c.args.link.row ≡ row_of (names_in me.0.log.txns) c.args.w =
    ap (λ (z : Record). z.row) link in
    let before : c.args.link.predecessor ≡ predecessor_of (names_in me.0.log.txns) c.args.w =
    ap (λ (z : Record). z.predecessor) link in
    let told = c.compare_exchange-found.ensures.2 c.args.w is
    (ap (λ (r : ℕ). r - 1) row) before refl in
    let covers : CoversRow c.args.pass.now c.args.link.row c.compare_exchange-found.result =
    subst (λ (r : ℕ). CoversRow c.args.pass.now r c.compare_exchange-found.result) (sym row)
    (subst (λ (p : Pass). CoversRow p
    (row_of (names_in me.0.log.txns) c.args.w) c.compare_exchange-found.result) c.pass.view_is
    (told.3 c.pass.inside.seat.table_id)) in
    elim c.if-found-link.branch [
      | then-found-link w ↦
          (rw w.result-is
          (subst (CoversRow c.args.pass.now c.args.link.row) w.if-found-link.true covers))
      | else-found-link w ↦ (rw w.result-is covers)
    ]
