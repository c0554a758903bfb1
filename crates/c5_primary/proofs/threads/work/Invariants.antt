use Rattle.c5_primary.specs.Running.{IsSameCaller}
use Rattle.c5_primary.proofs.threads.work.Given as goal

abbrev pub invariant-loop-script : goal.invariant-loop-script
invariant-loop-script g l = IsSameCaller l.initial.runner.session l.runner.session
