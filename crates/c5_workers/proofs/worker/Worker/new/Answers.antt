use Rattle.std.proofs.Common.{refl, arith}
use Rattle.c5_workers.proofs.WorkLemmas.{fits-unworked}
use Rattle.c5_workers.proofs.worker.Worker.new.Goals as goal

pub returns-clause-fits : goal.returns-clause-fits
returns-clause-fits c = λ p of role none.
    fits-unworked _ p _ _
    (c.number_law.ensures.owners c.args.workers
    (omega (arith, c.requires.worker.0, c.requires.worker.1))) c.requires.worker c.requires.few
    (record {
      worker = refl;
      of_workers = refl;
      next = refl;
      none = c.in_ok-put_off.ensures.items;
      room = omega (arith, c.in_ok-put_off.ensures.capacity);
    }) of role none
