use Rattle.std.proofs.Common.{rules}
use Rattle.turn_slot.proofs.PartSteps.{opens_with}
use Rattle.turn_slot.proofs.slot.TurnSlot.new.Goals as goal

pub new-requires : goal.new-requires
new-requires g c = opens_with g.V.Kept.base g.V.Kept.history g.V.Kept.caller _ c.args.value _
    (search rules) (search rules) c.requires.empty
