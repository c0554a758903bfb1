use Rattle.std.proofs.Common.{refl}
use Rattle.std.specs.Prelude.{codes}
use Rattle.c5_definitions.specs.Answers.{answer_of}
use Rattle.c5_definitions.specs.WorkedRuns.{at}
use Rattle.c5_definitions.proofs.Runs.{got}
use Rattle.c5_definitions.proofs.worked.worked_answer.Goals as goal

pub returns : goal.returns
unfolding answer_of
returns c = rw (got (at (codes "b")), got (at (codes "z")), got (at (codes "a"))) refl
