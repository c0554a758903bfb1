use Rattle.std.proofs.Common.{refl}
use Rattle.c5_definitions.specs.Generated.{draw}
use Rattle.c5_definitions.proofs.generated_worked.worked_draws.Goals as goal

pub returns : goal.returns
unfolding draw
returns c = record { first = refl; second = refl; moves = refl; moves_next = refl; body = refl }
