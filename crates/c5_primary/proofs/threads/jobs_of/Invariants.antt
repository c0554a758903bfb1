use Rattle.std.proofs.Common.{◌≡◌, map}
use Rattle.turn_slot.specs.Passes.{numbers}
use Rattle.c5_primary.specs.Jobs.{AreSessionsOf, session_numbers}
use Rattle.c5_primary.proofs.threads.jobs_of.Given as goal

abbrev pub invariant-loop-pass : goal.invariant-loop-pass
invariant-loop-pass l = AreSessionsOf l.slot l.jobs.items
    × (map session_numbers l.jobs.items ≡ map numbers l.yielded)
