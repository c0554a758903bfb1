use Rattle.std.proofs.Common.{arith, subst, sym, refl, ◌∙◌}
use Rattle.atomic_table.specs.Table.{Splits}
use Rattle.c5_board.specs.Boards.{Pass}
use Rattle.c5_board.specs.Rule.{IsKept}
use Rattle.c5_board.specs.HeldPass.{shown_pass}
use Rattle.c5_board.specs.Views.{Taken, rest_view, part_view}
use Rattle.c5_board.specs.Cuts.{Holds}
use Rattle.c5_board.proofs.PartSteps.{splits_seat}
use Rattle.c5_board.proofs.PassLemmas.{rest_pass, part_pass}
use Rattle.c5_board.proofs.CallLemmas.{met, same_board, allowed}
use Rattle.c5_board.proofs.board.Board.cut.Goals as goal

pub split_seat-part-requires : goal.split_seat-part-requires
split_seat-part-requires g c =
    let b = c.self.inside in
    let v = c.pass.inside.seat.me.0 in
    let id = c.pass.inside.seat.id in
    let q = same_board c.args.self.now c.args.pass _ c.pass.view_is c.requires.pass in
    let m = met c.self.inside c.self.invariant c.pass.inside.seat.table_id c.pass.inside.seat.me.0
    (c.self.view_is ∙ q) in
    let taken = g.J.Picks.taken in
    let holds = subst (λ (t : Taken). Holds (shown_pass c.pass.inside) t) (sym c.requires.taken)
    (subst (λ (p : Pass). Holds p
    (record {
      worker = c.args.worker;
      snapshot = c.args.snapshot;
      scheduler = c.args.scheduler;
    })) (sym c.pass.view_is) c.requires.holds) in
    let count = m.count in (
      m.same_table,
      omega arith,
      allowed b c.pass.inside.seat.table_id v m
          (λ l n. Splits (IsKept l n) id v (rest_view taken v) (part_view taken v))
          (splits_seat v.log v.workers m.plan id v taken
          (record {
            worker = holds.worker;
            snapshot = holds.snapshot;
            scheduler = holds.scheduler;
          })),
    )

pub invariant_of-result : goal.invariant_of-result
invariant_of-result g c =
    rest_pass c.pass.inside _ g.J.Picks.taken refl c.split_seat-part.ensures.0
    c.split_seat-part.ensures.2 c.pass.invariant

pub invariant_of-result-2 : goal.invariant_of-result-2
invariant_of-result-2 g c =
    let taken = g.J.Picks.taken in
    let holds = subst (λ (t : Taken). Holds (shown_pass c.pass.inside) t) (sym c.requires.taken)
    (subst (λ (p : Pass). Holds p
    (record {
      worker = c.args.worker;
      snapshot = c.args.snapshot;
      scheduler = c.args.scheduler;
    })) (sym c.pass.view_is) c.requires.holds) in
    part_pass c.pass.inside _ g.J.Picks.taken holds refl c.split_seat-part.ensures.3
    c.split_seat-part.ensures.4 c.pass.invariant
