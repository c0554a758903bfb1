use Rattle.std.proofs.Common.{◌∙◌, ◌+◌, ap, sym, subst, refl, arith}
use Rattle.std.proofs.lemmas.List.{with_items_is}
use Rattle.c5_board.specs.Boards.{Board, names, write_count}
use Rattle.c5_workers.specs.Scheduling.{IsLastOfEach}
use Rattle.c5_workers.proofs.Turned.{next-of, ready-of, scheduled-next, fits-next, only-looked}
use Rattle.c5_workers.proofs.Turned.{only-scheduled}
use Rattle.c5_workers.proofs.scheduler.Scheduler.turn.Goals as goal

pub overflow_add-w : goal.overflow_add-w
overflow_add-w c =
    omega (
      arith,
      c.requires.fits.scheduled,
      c.place-place.ensures.sound.scheduled,
      ap write_count c.requires.pass,
    )

pub place_next-requires-clause-next : goal.place_next-requires-clause-next
place_next-requires-clause-next c =
    next-of c.args.self.now c.args.pass.now c.requires.fits c.place-place.ensures.sound.scheduled
    (λ e. c.if-self-writes.false (e ∙ ap write_count c.requires.pass ∙ sym c.writes.ensures.value))

pub record_next-requires-clause-ready : goal.record_next-requires-clause-ready
record_next-requires-clause-ready c =
    let next =
    next-of c.args.self.now c.args.pass.now c.requires.fits
    c.place-place.ensures.sound.scheduled
    (λ e. c.if-self-writes.false
    (e ∙ ap write_count c.requires.pass ∙ sym c.writes.ensures.value)) in
    ready-of c.args.self.now c.args.pass.now _ _ _ c.requires.fits next c.in-Some.ensures _
    c.as_mut_slice.ensures.value

pub returns-clause-fits : goal.returns-clause-fits
returns-clause-fits c =
    let next =
    next-of c.args.self.now c.args.pass.now c.requires.fits
    c.place-place.ensures.sound.scheduled
    (λ e. c.if-self-writes.false
    (e ∙ ap write_count c.requires.pass ∙ sym c.writes.ensures.value)) in
    fits-next c.args.self.now c.args.pass.now _ _ _ c.requires.fits next c.in-Some.ensures _ _
    c.rows_with-self.result c.record_next.ensures.pass refl refl c.rows_with-self.ensures
    (rw (with_items_is c.args.self.now.last c.record_next.new.last
    (c.record_next.ensures.last.count ∙ ap write_count
    (sym c.requires.pass) ∙ sym c.requires.fits.last.count ∙ sym c.args.self.now.last.ok.0))
    (subst (λ (b : Board). IsLastOfEach (names b) c.record_next.new.last
    (c.args.self.now.scheduled + 1)) (sym c.requires.pass) c.record_next.ensures.last))

pub returns-clause-turn : goal.returns-clause-turn
returns-clause-turn c =
    let next =
    next-of c.args.self.now c.args.pass.now c.requires.fits
    c.place-place.ensures.sound.scheduled
    (λ e. c.if-self-writes.false
    (e ∙ ap write_count c.requires.pass ∙ sym c.writes.ensures.value)) in
    scheduled-next c.args.self.now c.args.pass.now _ _ _ c.requires.fits next c.in-Some.ensures _
    c.record_next.ensures.pass

pub returns-in_default-clause-only : goal.returns-in_default-clause-only
returns-in_default-clause-only c = only-looked c.args.pass.now _ _ c.in_default.ensures.looks

pub returns-clause-only : goal.returns-clause-only
returns-clause-only c =
    let next =
    next-of c.args.self.now c.args.pass.now c.requires.fits
    c.place-place.ensures.sound.scheduled
    (λ e. c.if-self-writes.false
    (e ∙ ap write_count c.requires.pass ∙ sym c.writes.ensures.value)) in
    only-scheduled c.args.pass.now _ _
    (scheduled-next c.args.self.now c.args.pass.now _ _ _ c.requires.fits next c.in-Some.ensures
    _ c.record_next.ensures.pass)
