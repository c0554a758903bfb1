use Rattle.std.proofs.Common.{◌∙◌, ap, refl, arith}
use Rattle.std.proofs.lemmas.Option.{slice_get_read}
use Rattle.c5_workers.proofs.FinishLemmas.{workers-stored, stored-more}
use Rattle.c5_workers.proofs.finishing.store_all.Goals as goal

pub store_least-requires-clause-fits : goal.store_least-requires-clause-fits
store_least-requires-clause-fits c =
    c.loop-worker.invariant.workers.each c.loop-worker.worker-index c.worker-item.result
    (slice_get_read _ _ _ _ refl c.loop-worker-test.true c.worker-item.is)

pub loop-worker-preserved : goal.loop-worker-preserved
loop-worker-preserved c =
    let at = slice_get_read _ _ _ _ refl c.loop-worker-test.true c.worker-item.is in
    let fits =
    c.loop-worker.invariant.workers.each c.loop-worker.worker-index c.worker-item.result at in
    let some = fits.worker in
    let workers = fits.workers in
    record {
      board = ap (λ p. p.board) c.store_least.ensures.pass ∙ c.loop-worker.invariant.board;
      workers = workers-stored _ _ _ _ _ c.loop-worker.invariant.workers c.store_least.ensures.pass;
      stored = stored-more _ _ _ c.loop-worker.worker-index c.worker-item.result
          (c.number_law.ensures.owners c.loop-worker.pass.board.workers (omega arith))
          c.place-place.ensures.sound fits
          (c.loop-worker.invariant.workers.order c.loop-worker.worker-index c.worker-item.result at)
          c.requires.all c.loop-worker.invariant.stored c.store_least.ensures.pass;
    }
