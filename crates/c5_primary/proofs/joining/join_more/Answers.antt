use Rattle.std.proofs.Common.{◌++◌, ◌∙◌, ap}
use Rattle.std.specs.List.{flat_map}
use Rattle.turn_slot.specs.Passes.{numbers}
use Rattle.c5_primary.specs.Jobs.{done_numbers}
use Rattle.c5_primary.proofs.JobLemmas.{session-of, rest-of, more-numbers, all-ok}
use Rattle.c5_primary.proofs.joining.join_more.Goals as goal

pub join-all-requires-clause-a : goal.join-all-requires-clause-a
join-all-requires-clause-a c =
    c.into_pass.ensures.pass c.args.slot.now
    (session-of c.args.slot.now c.loop-next.done.items c.pop.new.self.items c.in-Some.next
    c.in-Ok.session (c.in-Some.ensures.items, c.in-Ok.is) c.loop-next.invariant.done)

pub loop-next-preserved : goal.loop-next-preserved
loop-next-preserved c =
    let done = c.loop-next.done.items in
    let rest = c.pop.new.self.items in
    let next = c.in-Some.next in
    let s = c.in-Ok.session in
    let l = c.loop-next.invariant in
    record {
      pass = c.join-all.ensures.pass;
      done = rest-of c.args.slot.now done rest next s (c.in-Some.ensures.items, c.in-Ok.is) l.done;
      numbers = ap (λ ns. flat_map done_numbers rest ++ ns)
          (c.join-all.ensures.numbers ∙ ap
          (λ ns. ns ++ numbers c.loop-next.all) c.into_pass.ensures.numbers)
          ∙ more-numbers done rest next s (numbers c.loop-next.all)
          (c.in-Some.ensures.items, c.in-Ok.is) ∙ l.numbers;
      ok = λ these. l.ok (all-ok done rest next s (c.in-Some.ensures.items, c.in-Ok.is) these);
    }
