use Rattle.std.proofs.Common.{IsSome}
use Rattle.c5_primary.specs.Running.{IsSameCaller}
use Rattle.c5_primary.proofs.running.cancel.Given as goal

abbrev pub invariant-loop : goal.invariant-loop
invariant-loop g l = IsSameCaller l.initial.runner.session l.runner.session
    × IsSome l.runner.session.begun
