use Rattle.turn_slot.proofs.Laws.{lawful}
use Rattle.turn_slot.proofs.law.turn_law.Goals as goal

pub returns : goal.returns
returns g c = λ origin. lawful g.V.Kept.base g.V.Kept.history g.V.Kept.caller origin
