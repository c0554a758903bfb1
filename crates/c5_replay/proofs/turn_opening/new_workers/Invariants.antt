use Rattle.c5_replay.specs.TurnStates.{AreNewWorkers}
use Rattle.c5_replay.proofs.turn_opening.new_workers.Given as goal

abbrev pub invariant-loop-before : goal.invariant-loop-before
invariant-loop-before l = AreNewWorkers l.workers l.before l.list.items
