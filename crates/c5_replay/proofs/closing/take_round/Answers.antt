use Rattle.std.proofs.Common.{◌≡◌, ◌∙◌, ℕ, ap, sym}
use Rattle.c5_rows.specs.Numbers.{numbers_from}
use Rattle.c5_board.specs.Boards.{names}
use Rattle.c5_definitions.specs.Turns.{TurnMachine, after_visible, after_worker_turns}
use Rattle.c5_replay.specs.TurnStates.{machine_of}
use Rattle.c5_replay.proofs.StepLemmas.{worker-count}
use Rattle.c5_replay.proofs.closing.take_round.Goals as goal

pub returns-clause-machine : goal.returns-clause-machine
returns-clause-machine c =
    let board = c.args.shared.now.board.now in
    let m = machine_of c.args.turning.now in
    c.take_visible_turn.ensures.machine
    ∙ ap (λ (x : TurnMachine). after_visible board.log.txns x)
    (c.take_all_worker_turns.ensures.machine
    ∙ ap (λ (n : ℕ). after_worker_turns (names board) m (numbers_from 1 n))
    (sym (worker-count board c.args.shared.now.start.now c.args.shared.now.reads.now
    c.args.turning.now c.requires.fits)))
