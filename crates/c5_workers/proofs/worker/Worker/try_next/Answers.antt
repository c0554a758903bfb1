use Rattle.std.proofs.Common.{◌≡◌, ap, sym, subst, refl, arith}
use Rattle.c5_board.specs.Boards.{Board, names, write_count}
use Rattle.c5_chains.specs.Tries.{after_try, head_found}
use Rattle.c5_workers.proofs.WorkLemmas.{worker-next}
use Rattle.c5_workers.proofs.worker.Worker.try_next.Goals as goal

pub overflow_add-self : goal.overflow_add-self
overflow_add-self c =
    omega (
      arith,
      c.place-place.ensures.sound.scheduled,
      ap write_count c.requires.pass,
      c.requires.fits.few_workers,
    )

pub returns-clause-fits : goal.returns-clause-fits
returns-clause-fits c =
    let is = subst (λ (b : Board). c.try_install-install.new.pass
    ≡ after_try c.args.pass.now c.args.self.now.next
    (head_found (names b) c.args.self.now.next c.try_install-install.result))
    (sym c.requires.pass) c.try_install-install.ensures.pass in
    let some = c.requires.fits.worker in
    let workers = c.requires.fits.workers in
    worker-next c.args.self.now _ c.args.pass.now c.try_install-install.new.pass
    c.try_install-install.result
    (c.number_law.ensures.owners c.args.pass.now.board.workers (omega arith)) c.requires.fits
    (omega arith) c.place-place.ensures.sound.scheduled
    c.try_install-install.ensures.cause is refl refl refl c.keep.ensures.list c.keep.ensures.few
    c.keep.ensures.room
