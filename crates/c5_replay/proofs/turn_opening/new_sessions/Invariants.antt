use Rattle.c5_replay.specs.TurnStates.{AreNewSessions}
use Rattle.c5_replay.proofs.turn_opening.new_sessions.Given as goal

abbrev pub invariant-loop-before : goal.invariant-loop-before
invariant-loop-before l = AreNewSessions l.before l.list.items
