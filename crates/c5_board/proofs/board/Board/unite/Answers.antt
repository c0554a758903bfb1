use Rattle.std.proofs.Common.{rules, arith, ap, subst, sym, ◌∙◌}
use Rattle.atomic_table.specs.Table.{Joins}
use Rattle.c5_board.specs.declared.known.Known.{Known}
use Rattle.c5_board.specs.Boards.{Board}
use Rattle.c5_board.specs.Rule.{IsKept}
use Rattle.c5_board.specs.Views.{joined_view, spent_view}
use Rattle.c5_board.proofs.PartSteps.{joins_seats}
use Rattle.c5_board.proofs.PassLemmas.{joined_pass}
use Rattle.c5_board.proofs.CallLemmas.{met, same_board, allowed}
use Rattle.c5_board.proofs.board.Board.unite.Goals as goal

pub join_seat-requires : goal.join_seat-requires
join_seat-requires g c =
    let b = c.self.inside in
    let v = c.a.inside.seat.me.0 in
    let w = c.b.inside.seat.me.0 in
    let q = same_board c.args.self.now c.args.a _ c.a.view_is c.requires.a in
    let q_b = same_board c.args.self.now c.args.b _ c.b.view_is c.requires.b in
    let m = met c.self.inside c.self.invariant c.a.inside.seat.table_id c.a.inside.seat.me.0
    (c.self.view_is ∙ q) in
    let m_b = met c.self.inside c.self.invariant c.b.inside.seat.table_id c.b.inside.seat.me.0
    (c.self.view_is ∙ q_b) in
    let count = m.count in
    let spent = c.requires.spent ∙ ap (λ (z : Board). spent_view z.log z.workers) q in (
      m.same_table,
      m_b.same_table,
      c.b.invariant.no_slots,
      omega arith,
      allowed b c.a.inside.seat.table_id v m
          (λ l n. Joins (IsKept l n) c.a.inside.seat.id v c.b.inside.seat.id w
          (joined_view v w) g.J.Picks.spent)
          (subst (λ (z : Known). Joins
          (IsKept v.log v.workers) c.a.inside.seat.id v c.b.inside.seat.id w
          (joined_view v w) z) (sym spent)
          (joins_seats v.log v.workers m.plan c.a.inside.seat.id v c.b.inside.seat.id w)),
    )

pub invariant_of-result : goal.invariant_of-result
invariant_of-result g c =
    let q = same_board c.args.self.now c.args.a _ c.a.view_is c.requires.a in
    let q_b = same_board c.args.self.now c.args.b _ c.b.view_is c.requires.b in
    let m = met c.self.inside c.self.invariant c.a.inside.seat.table_id c.a.inside.seat.me.0
    (c.self.view_is ∙ q) in
    joined_pass c.a.inside c.b.inside _ m.plan (sym q_b ∙ q) (search rules)
    (search rules) c.join_seat.ensures.2 c.a.invariant c.b.invariant
