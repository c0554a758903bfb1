use Rattle.std.proofs.Common.{rules}
use Rattle.turn_slot.proofs.Steps.{gives_new, ends_turn, stage_of}
use Rattle.turn_slot.proofs.slot.TurnSlot.give.Goals as goal

pub store-requires : goal.store-requires
store-requires g c = let out = c.args.turn.out in (
  search rules,
  search rules,
  gives_new g.V.Kept.base g.V.Kept.history g.V.Kept.caller _ _ _ c.args.turn.seat.me _ c.args.value
      _ c.exchange-hole.ensures.3 out.0 out.1 c.requires.base c.requires.history
      c.entries-entries.ensures,
)

pub store-requires-2 : goal.store-requires-2
store-requires-2 g c = (
  search rules,
  search rules,
  ends_turn g.V.Kept.base g.V.Kept.history g.V.Kept.caller _ _ _ _
      (stage_of _ _ _ (c.store.ensures.2 c.args.value (search rules))),
)
