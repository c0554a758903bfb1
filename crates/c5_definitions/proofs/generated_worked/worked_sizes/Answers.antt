use Rattle.std.proofs.Common.{refl}
use Rattle.c5_definitions.specs.Generated.{generated_script}
use Rattle.c5_definitions.proofs.generated_worked.worked_sizes.Goals as goal

pub returns : goal.returns
unfolding generated_script
returns c = record { opening = refl; bodies = refl; reads = refl }
