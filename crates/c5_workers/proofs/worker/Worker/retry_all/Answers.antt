use Rattle.std.proofs.Common.{◌≡◌, ◌∙◌, List, ℕ, length, take, length-take, ap, sym, subst, refl}
use Rattle.std.proofs.Common.{arith}
use Rattle.std.proofs.lemmas.List.{with_items_is}
use Rattle.c5_workers.specs.Tries.{FitsList}
use Rattle.c5_workers.proofs.WorkLemmas.{worker-with, tries-keep}
use Rattle.c5_workers.proofs.worker.Worker.retry_all.Goals as goal

pub returns-clause-fits : goal.returns-clause-fits
returns-clause-fits c =
    let keep = tries-keep _ _ _ _ c.retry-kept.ensures.retries.tries in
    let same_len : length c.retry-kept.new.list ≡ c.args.self.now.put_off.len =
    c.retry-kept.auto.list ∙ c.as_mut_slice.ensures.len in
    let items : c.truncate.new.self.items ≡ take c.retry-kept.result c.retry-kept.new.list =
    c.truncate.ensures.items ∙ ap (take c.retry-kept.result)
    (with_items_is c.args.self.now.put_off c.retry-kept.new.list same_len) in
    worker-with c.args.self.now _ c.args.pass.now c.retry-kept.new.pass c.requires.fits keep.0 refl
    refl refl
    (subst (λ (l : List ℕ). FitsList c.args.self.now.i c.args.self.now.next l c.retry-kept.new.pass)
    (sym items) c.retry-kept.ensures.fits)
    (omega (
      arith,
      ap length items,
      length-take c.retry-kept.result c.retry-kept.new.list,
      c.retry-kept.ensures.few,
      ap length c.as_mut_slice.ensures.value,
    ))
    (omega (arith, c.truncate.ensures.capacity, c.requires.fits.room))

pub returns-clause-board : goal.returns-clause-board
returns-clause-board c = (tries-keep _ _ _ _ c.retry-kept.ensures.retries.tries).0

pub returns-clause-scheduled : goal.returns-clause-scheduled
returns-clause-scheduled c = (tries-keep _ _ _ _ c.retry-kept.ensures.retries.tries).1
