use Rattle.std.proofs.Common.{rules}
use Rattle.turn_slot.proofs.Steps.{tries, takes_slot, stage_of, slot_of, took_own}
use Rattle.turn_slot.proofs.slot.TurnSlot.try_take.Goals as goal

pub compare_exchange-holder-requires : goal.compare_exchange-holder-requires
compare_exchange-holder-requires g c = let idle = c.args.pass.idle in (
  search rules,
  search rules,
  tries g.V.Kept.base g.V.Kept.history g.V.Kept.caller _ _ _ _ c.args.pass.number idle.1 idle.2,
)

pub load-requires : goal.load-requires
load-requires g c = let won = c.compare_exchange-holder.ensures.2.0 c.if-holder-ne0.false in (
  search rules,
  search rules,
  takes_slot g.V.Kept.base g.V.Kept.history g.V.Kept.caller _ _ _ _ (stage_of _ _ _ won),
)

pub exchange-requires : goal.exchange-requires
exchange-requires g c = let took = c.load.ensures.2 in (search rules, (_, slot_of _ _ _ _ took.1))

pub returns-clause-own : goal.returns-clause-own
returns-clause-own g c = let took = c.load.ensures.2 in
    took_own g.V.Kept.history g.V.Kept.caller c.args.pass.seat.me.0 _ _ _ _ _ _
    (c.compare_exchange-holder.ensures.2.0 c.if-holder-ne0.false) took.2 took.1
    c.exchange.ensures.2 c.in-Some.is
