use Rattle.std.proofs.Common.{◌∙◌, ◌+◌, ◌%◌, ◌<◌, ap, sym, arith}
use Rattle.std.proofs.Math.Nat.{mod-lt}
use Rattle.c5_definitions.specs.WriteNumbers.{owner_of}
use Rattle.c5_board.specs.Boards.{Board}
use Rattle.c5_workers.proofs.FinishLemmas.{worker-at, owner-at, workers-left, installed-more}
use Rattle.c5_workers.proofs.finishing.install_left.Goals as goal

pub install-requires-clause-fits : goal.install-requires-clause-fits
install-requires-clause-fits c =
    let less : c.loop-before.before % c.workers-count.result < c.workers-count.result =
    mod-lt c.loop-before.before (omega (arith, c.workers-count.ensures.some)) in
    (worker-at c.loop-before.pass c.loop-before.workers _ _ c.loop-before.invariant.workers
    (omega (
      arith,
      less,
      c.workers-count.ensures.value,
      c.loop-before.invariant.workers.count,
      ap (λ (b : Board). b.workers) c.loop-before.invariant.board,
    ))).0

pub install-requires-clause-owned : goal.install-requires-clause-owned
install-requires-clause-owned c =
    let less : c.loop-before.before % c.workers-count.result < c.workers-count.result =
    mod-lt c.loop-before.before (omega (arith, c.workers-count.ensures.some)) in
    ap (λ (b : Board). owner_of b.workers (c.loop-before.before + 1)) c.loop-before.invariant.board
    ∙ ap (λ n. owner_of n (c.loop-before.before + 1)) (sym c.workers-count.ensures.value)
    ∙ owner-at c.workers-count.result c.loop-before.before
    ∙ sym (worker-at c.loop-before.pass c.loop-before.workers _ _ c.loop-before.invariant.workers
    (omega (
      arith,
      less,
      c.workers-count.ensures.value,
      c.loop-before.invariant.workers.count,
      ap (λ (b : Board). b.workers) c.loop-before.invariant.board,
    ))).1

pub loop-before-preserved : goal.loop-before-preserved
loop-before-preserved c =
    let less : c.loop-before.before % c.workers-count.result < c.workers-count.result =
    mod-lt c.loop-before.before (omega (arith, c.workers-count.ensures.some)) in
    record {
      board = ap (λ p. p.board) c.install.ensures.pass ∙ c.loop-before.invariant.board;
      workers = workers-left c.loop-before.pass c.install.new.pass c.loop-before.workers _
          (c.loop-before.before + 1) c.install.new.self _ c.loop-before.invariant.workers
          (omega (
            arith,
            less,
            c.workers-count.ensures.value,
            c.loop-before.invariant.workers.count,
            ap (λ (b : Board). b.workers) c.loop-before.invariant.board,
          ))
          (ap (λ (b : Board). owner_of b.workers (c.loop-before.before + 1))
          c.loop-before.invariant.board
          ∙ ap (λ n. owner_of n (c.loop-before.before + 1)) (sym c.workers-count.ensures.value)
          ∙ owner-at c.workers-count.result c.loop-before.before)
          c.install.ensures.fits c.install.ensures.i c.install.ensures.pass;
      installed = installed-more _ _ _ _ c.loop-before.invariant.installed c.install.ensures.pass;
    }
