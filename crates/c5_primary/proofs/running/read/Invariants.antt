use Rattle.std.proofs.Common.{◌≡◌}
use Rattle.c5_primary.specs.Sessions.{answers_of}
use Rattle.c5_primary.specs.Running.{settled}
use Rattle.c5_primary.proofs.running.read.Given as goal

abbrev pub invariant-loop : goal.invariant-loop
invariant-loop g l = (settled l.session ≡ settled l.initial.session)
    × (answers_of l.session ≡ answers_of l.initial.session)
