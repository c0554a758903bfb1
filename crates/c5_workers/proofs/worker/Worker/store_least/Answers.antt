use Rattle.std.proofs.Common.{sym, subst, arith}
use Rattle.c5_board.specs.Passes.{IsOutstanding}
use Rattle.c5_workers.proofs.WorkLemmas.{outstanding}
use Rattle.c5_workers.proofs.worker.Worker.store_least.Goals as goal

pub store_progress-requires-clause-least : goal.store_progress-requires-clause-least
store_progress-requires-clause-least c =
    let some = c.requires.fits.worker in
    let workers = c.requires.fits.workers in
    subst (IsOutstanding c.args.pass.now c.args.self.now.i) (sym c.least.ensures)
    (outstanding c.args.self.now c.args.pass.now
    (c.number_law.ensures.owners c.args.pass.now.board.workers (omega arith))
    c.place-place.ensures.sound c.requires.fits)
