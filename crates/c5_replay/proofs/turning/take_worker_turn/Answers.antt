use Rattle.std.proofs.Common.{◌≡◌, ◌∙◌, ◌+◌, ◌-◌, ◌≤◌, ◌<◌, ℕ, List, length, ap, sym, subst}
use Rattle.std.proofs.Common.{refl, arith}
use Rattle.std.specs.Vec.{with_items}
use Rattle.std.proofs.lemmas.List.{with_items_is}
use Rattle.c5_definitions.specs.NumberLaws.{NumbersAreOwned}
use Rattle.c5_board.specs.Boards.{Board, names, write_count}
use Rattle.c5_workers.specs.declared.worker.Worker.{Worker}
use Rattle.c5_replay.specs.TurnStates.{TakesTurnAt}
use Rattle.c5_replay.proofs.MachineLemmas.{worker-none, worker-zero}
use Rattle.c5_replay.proofs.StepLemmas.{taken-by-both, worked-fits, worked-machine}
use Rattle.c5_replay.proofs.TurnMissed.{missed-few}
use Rattle.c5_replay.proofs.turning.take_worker_turn.Goals as goal

pub returns-then-i-eq0-clause-machine : goal.returns-then-i-eq0-clause-machine
returns-then-i-eq0-clause-machine c =
    worker-zero c.args.turning.now (names c.args.shared.now.board.now) c.args.i c.if-i-eq0.true

pub returns-then-i-workers-clause-machine : goal.returns-then-i-workers-clause-machine
returns-then-i-workers-clause-machine c =
    worker-none c.args.turning.now (names c.args.shared.now.board.now) c.args.i
    (omega (
      arith,
      c.if-i-workers.true,
      c.workers.ensures.value,
      c.requires.fits.turning.each.count,
      ap (λ (b : Board). b.workers) c.requires.fits.turning.of_board,
    ))

pub overflow_add-turning : goal.overflow_add-turning
overflow_add-turning c =
    omega (
      arith,
      c.requires.fits.missed.count,
      missed-few (names c.args.turning.now.pass.board) c.args.turning.now.pass.looks,
      ap write_count c.requires.fits.turning.of_board,
      c.writes-writes.ensures.value,
      c.writes-writes.ensures.few,
      c.put_offs.type_inv,
    )

pub returns-clause-fits : goal.returns-clause-fits
returns-clause-fits c =
    let t = c.args.turning.now in
    let board = c.args.shared.now.board.now in
    let owners : NumbersAreOwned board.workers =
    c.number_law.ensures.owners board.workers
    (omega (arith, c.workers.ensures.some, c.workers.ensures.value)) in
    worked-fits board c.args.shared.now.start.now c.args.shared.now.reads.now t _ (c.args.i - 1)
    c.turn_at-did.result owners c.requires.fits
    (taken-by-both t.pass c.turn_at-did.new.pass _ _ _ _ (c.args.i - 1) c.turn_at-did.result
    c.as_mut_slice.ensures.value
    (with_items_is t.workers c.turn_at-did.new.workers
    (c.turn_at-did.auto.workers ∙ c.as_mut_slice.ensures.len)) c.turn_at-did.ensures) refl
    (ap (λ (n : ℕ). t.put_off + n) c.put_offs.ensures)

pub returns-clause-machine : goal.returns-clause-machine
returns-clause-machine c =
    let t = c.args.turning.now in
    let board = c.args.shared.now.board.now in
    let owners : NumbersAreOwned board.workers =
    c.number_law.ensures.owners board.workers
    (omega (arith, c.workers.ensures.some, c.workers.ensures.value)) in
    let zero_not = c.if-i-eq0.false in
    let number : c.args.i ≡ (c.args.i - 1) + 1 = omega (arith, zero_not) in
    worked-machine board t
    (record t {
      pass = c.turn_at-did.new.pass;
      workers = with_items t.workers c.turn_at-did.new.workers;
      put_off = t.put_off + c.put_offs.result;
    })
    (c.args.i - 1) c.args.i c.turn_at-did.result owners
    c.requires.fits.turning number
    (taken-by-both t.pass c.turn_at-did.new.pass _ _ _ _ (c.args.i - 1) c.turn_at-did.result
    c.as_mut_slice.ensures.value
    (with_items_is t.workers c.turn_at-did.new.workers
    (c.turn_at-did.auto.workers ∙ c.as_mut_slice.ensures.len)) c.turn_at-did.ensures) refl
    (ap (λ (n : ℕ). t.put_off + n) c.put_offs.ensures)
