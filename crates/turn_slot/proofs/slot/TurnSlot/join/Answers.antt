use Rattle.std.proofs.Common.{rules, ◌∙◌}
use Rattle.turn_slot.proofs.Steps.{stage_of}
use Rattle.turn_slot.proofs.PartSteps.{joins, settles, joined_own}
use Rattle.turn_slot.proofs.slot.TurnSlot.join.Goals as goal

pub join_seat-requires : goal.join_seat-requires
join_seat-requires g c = let a = c.args.a.idle in let b = c.args.b.idle in (
  search rules,
  search rules,
  search rules,
  search rules,
  joins g.V.Kept.base g.V.Kept.history g.V.Kept.caller _ _ _ _ _ a.1 b.1,
)

pub load-requires : goal.load-requires
load-requires g c = (
  search rules,
  search rules,
  settles g.V.Kept.base g.V.Kept.history g.V.Kept.caller _ _ _ _
      (stage_of _ _ _ c.join_seat.ensures.2 ∙ c.args.a.idle.1),
)

pub returns-clause-own_a : goal.returns-clause-own_a
returns-clause-own_a g c =
    (joined_own g.V.Kept.caller c.args.a.seat.me.0 c.args.b.seat.me.0 _ _ _ c.join_seat.ensures.2
    c.load.ensures.2.0 c.load.ensures.2.1).0

pub returns-clause-own_b : goal.returns-clause-own_b
returns-clause-own_b g c =
    (joined_own g.V.Kept.caller c.args.a.seat.me.0 c.args.b.seat.me.0 _ _ _ c.join_seat.ensures.2
    c.load.ensures.2.0 c.load.ensures.2.1).1
