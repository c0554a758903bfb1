use Rattle.turn_slot.proofs.Steps.{closed_some, closed_value}
use Rattle.turn_slot.proofs.slot.TurnSlot.close.Goals as goal

pub unreachable-requires : goal.unreachable-requires
unreachable-requires g c =
    closed_some g.V.Kept.base g.V.Kept.history g.V.Kept.caller _ _ _ _ _ _
    c.close_with-closed.ensures.values.2 c.take-value.ensures.value c.args.pass.idle.1
    c.requires.all c.in_default.is

pub returns-clause-base : goal.returns-clause-base
returns-clause-base g c =
    (closed_value g.V.Kept.base g.V.Kept.history g.V.Kept.caller _ _ _ _ _ _ _
    c.close_with-closed.ensures.values.2 c.take-value.ensures.value c.args.pass.idle.1
    c.requires.all c.in-Some.is).0

pub returns-clause-seen : goal.returns-clause-seen
returns-clause-seen g c =
    (closed_value g.V.Kept.base g.V.Kept.history g.V.Kept.caller _ _ _ _ _ _ _
    c.close_with-closed.ensures.values.2 c.take-value.ensures.value c.args.pass.idle.1
    c.requires.all c.in-Some.is).1

pub returns-clause-own : goal.returns-clause-own
returns-clause-own g c =
    (closed_value g.V.Kept.base g.V.Kept.history g.V.Kept.caller _ _ _ _ _ _ _
    c.close_with-closed.ensures.values.2 c.take-value.ensures.value c.args.pass.idle.1
    c.requires.all c.in-Some.is).2
