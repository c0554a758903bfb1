use Rattle.std.proofs.Common.{◌≡◌, ◌+◌, ◌-◌, ◌<◌, false}
use Rattle.c5_board.specs.Boards.{write_count}
use Rattle.c5_definitions.specs.Turns.{after_closing, after_rounds, is_all_done}
use Rattle.c5_replay.specs.TurnStates.{FitsTurns, machine_of}
use Rattle.c5_replay.proofs.closing.close.Given as goal

abbrev pub invariant-loop-before : goal.invariant-loop-before
invariant-loop-before l = record {
  fits : FitsTurns l.shared.board.now l.shared.start.now l.shared.reads.now l.turning;
  machine : after_rounds l.shared.board.now.log.txns (machine_of l.turning)
      ((write_count l.shared.board.now + 1) - l._before)
      ≡ after_closing l.shared.board.now.log.txns (machine_of l.fn.turning);
  open_so : 0 < l._before
      → is_all_done (write_count l.shared.board.now) l.turning.pass.installed ≡ false;
}
