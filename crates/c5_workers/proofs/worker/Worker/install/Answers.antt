use Rattle.std.proofs.Common.{◌≡◌, ◌∙◌, ap, sym, subst, arith}
use Rattle.c5_board.specs.Boards.{Board, names, write_count}
use Rattle.c5_chains.specs.Tries.{after_try, head_found}
use Rattle.c5_chains.specs.declared.install.Install.TheVariants.{Installed}
use Rattle.c5_workers.proofs.LeftLemmas.{least-other, left-none, never-put_off, least-taken}
use Rattle.c5_workers.proofs.worker.Worker.install.Goals as goal

pub returns-then-least-w-clause-pass : goal.returns-then-least-w-clause-pass
returns-then-least-w-clause-pass c =
    let some = c.requires.fits.worker in
    let workers = c.requires.fits.workers in
    left-none c.args.pass.now c.args.w
    (least-other c.args.self.now c.args.pass.now c.args.w
    (c.number_law.ensures.owners c.args.pass.now.board.workers (omega arith))
    c.place-place.ensures.sound c.requires.fits c.requires.next c.requires.owned
    (λ e. c.if-least-w.true (c.least.ensures ∙ e)))

pub take_least-requires : goal.take_least-requires
take_least-requires c = let bound = c.requires.fits.numbers.bound in
    let few = c.requires.fits.few_workers in let workers = c.requires.fits.workers in
    omega (
      arith,
      ap write_count c.requires.pass,
      c.writes-writes.ensures.value,
      c.writes-writes.ensures.few,
    )

pub unreachable-requires : goal.unreachable-requires
unreachable-requires c = never-put_off c.args.pass.now c.args.w _
    (c.number_law.ensures.predecessors _) c.requires.next c.in-PutOff.ensures.cause

pub returns-clause-fits : goal.returns-clause-fits
returns-clause-fits c =
    let some = c.requires.fits.worker in
    let workers = c.requires.fits.workers in
    let is = subst (λ (b : Board). c.try_install.new.pass
    ≡ after_try c.args.pass.now c.args.w (head_found (names b) c.args.w Installed))
    (sym c.requires.pass) c.in-Installed.ensures.pass in
    least-taken c.args.self.now _ c.args.pass.now _ c.args.w
    (c.number_law.ensures.owners c.args.pass.now.board.workers (omega arith)) c.requires.fits
    c.requires.next
    (sym c.least.ensures ∙ c.if-least-w.false) c.in-Installed.ensures.cause is
    c.take_least.ensures
