use Rattle.std.proofs.Common.{◌≡◌, drop}
use Rattle.c5_definitions.specs.Turns.{after_words}
use Rattle.c5_replay.specs.TurnStates.{FitsTurns, machine_of}
use Rattle.c5_replay.proofs.turning.take_words.Given as goal

abbrev pub invariant-loop-word : goal.invariant-loop-word
invariant-loop-word l = record {
  fits : FitsTurns l.shared.board.now l.shared.start.now l.shared.reads.now l.turning;
  machine : after_words l.shared.board.now.log.txns l.shared.reads.now (machine_of l.turning)
      (drop l.word-index l.turns)
      ≡ after_words l.shared.board.now.log.txns l.shared.reads.now (machine_of l.fn.turning)
      l.turns;
}
