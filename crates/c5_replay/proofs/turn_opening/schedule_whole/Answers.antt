use Rattle.std.proofs.Common.{ap}
use Rattle.c5_board.specs.Boards.{Pass}
use Rattle.c5_replay.proofs.turn_opening.schedule_whole.Goals as goal

pub schedule_all-requires-clause-fits : goal.schedule_all-requires-clause-fits
schedule_all-requires-clause-fits c =
    let is = c.requires.pass in
    c.requires.scheduler c.args.pass (ap (λ (p : Pass). p.board) is)
    (ap (λ (p : Pass). p.scheduler) is) (ap (λ (p : Pass). p.scheduled) is)
    (ap (λ (p : Pass). p.written) is) (ap (λ (p : Pass). p.indexed) is)
