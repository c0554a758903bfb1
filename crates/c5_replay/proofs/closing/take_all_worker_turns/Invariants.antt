use Rattle.std.proofs.Common.{◌≡◌, ◌+◌, ◌-◌}
use Rattle.c5_rows.specs.Numbers.{numbers_from}
use Rattle.c5_board.specs.Boards.{names}
use Rattle.c5_definitions.specs.Turns.{after_worker_turns}
use Rattle.c5_replay.specs.TurnStates.{FitsTurns, machine_of}
use Rattle.c5_replay.proofs.closing.take_all_worker_turns.Given as goal

abbrev pub invariant-loop-before : goal.invariant-loop-before
invariant-loop-before l = record {
  fits : FitsTurns l.shared.board.now l.shared.start.now l.shared.reads.now l.turning;
  machine : after_worker_turns (names l.shared.board.now) (machine_of l.turning)
      (numbers_from (l.before + 1) (l.shared.board.now.workers - l.before))
      ≡ after_worker_turns (names l.shared.board.now) (machine_of l.fn.turning)
      (numbers_from 1 l.shared.board.now.workers);
}
