use Rattle.turn_slot.proofs.Steps.{has_first}
use Rattle.turn_slot.proofs.pass.Pass.number.Goals as goal

pub returns-clause-among : goal.returns-clause-among
returns-clause-among g c = has_first _ _ c.args.self.now.idle.2
