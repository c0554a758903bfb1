use Rattle.c5_primary.specs.Running.{IsSameCaller}
use Rattle.c5_primary.specs.Sessions.{IsOutcomeOf}
use Rattle.c5_primary.proofs.running.commit.Given as goal

abbrev pub invariant-loop : goal.invariant-loop
invariant-loop g l = IsSameCaller l.initial.runner.session l.runner.session
    × IsOutcomeOf l.runner.session l.writes
