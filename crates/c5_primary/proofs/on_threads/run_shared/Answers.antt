use Rattle.std.proofs.Common.{◌∙◌, subst}
use Rattle.c5_rows.specs.Numbers.{numbers_from}
use Rattle.turn_slot.specs.Entries.{IsPassNumber}
use Rattle.turn_slot.specs.Passes.{numbers}
use Rattle.turn_slot.proofs.Histories.{all_numbers}
use Rattle.c5_primary.proofs.JobLemmas.{joined-numbers, done-of, some-done}
use Rattle.c5_primary.proofs.on_threads.run_shared.Goals as goal

pub join_all-requires-clause-some : goal.join_all-requires-clause-some
join_all-requires-clause-some g c =
    some-done c.in_ok-jobs.jobs.items c.in_ok-done.done.items c.args.threads c.requires.threads.0
    (c.in_ok-jobs.ensures.numbers ∙ c.in_ok-slot.ensures.numbers) c.in_ok-done.ensures

pub join_all-requires-clause-done : goal.join_all-requires-clause-done
join_all-requires-clause-done g c =
    done-of c.in_ok-slot.slot c.in_ok-jobs.jobs.items c.in_ok-done.done.items
    c.in_ok-jobs.ensures.sessions c.in_ok-done.ensures

pub close-requires-clause-all : goal.close-requires-clause-all
close-requires-clause-all g c n number =
    let joined = joined-numbers c.in_ok-jobs.jobs.items c.in_ok-done.done.items
    (numbers_from 1 c.args.threads) c.in_ok-done.ensures c.in_ok-pass.ensures.all
    (c.in_ok-jobs.ensures.numbers ∙ c.in_ok-slot.ensures.numbers) in
    all_numbers (numbers c.in_ok-pass.pass) c.args.threads n (c.in_ok-pass.ensures.numbers ∙ joined)
    (subst (λ count. IsPassNumber count n) c.in_ok-slot.ensures.slot.0 number)
