use Rattle.std.proofs.Common.{refl}
use Rattle.c5_definitions.specs.Limits.{excess_of}
use Rattle.c5_definitions.proofs.worked.worked_limits.Goals as goal

pub returns-clause-of_a_script : goal.returns-clause-of_a_script
unfolding excess_of
returns-clause-of_a_script c = refl
