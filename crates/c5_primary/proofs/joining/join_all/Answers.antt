use Rattle.std.proofs.Common.{◌≡◌, ◌++◌, ◌∙◌, ap, sym}
use Rattle.std.specs.Prelude.{IsOk}
use Rattle.std.specs.List.{All, flat_map}
use Rattle.turn_slot.specs.Passes.{numbers}
use Rattle.c5_primary.specs.Jobs.{done_numbers}
use Rattle.c5_primary.proofs.JobLemmas.{if-ok, session-of, last-numbers, all-ok}
use Rattle.c5_primary.proofs.joining.join_all.Goals as goal

pub join_more-requires-clause-first : goal.join_more-requires-clause-first
join_more-requires-clause-first c =
    c.into_pass.ensures.pass c.args.slot.now
    (session-of c.args.slot.now c.args.done.items c.pop.new.self.items c.in-Some.last
    c.in-Ok.session (c.in-Some.ensures.items, c.in-Ok.is) c.requires.done)

pub returns-in-Ok-clause-numbers : goal.returns-in-Ok-clause-numbers
returns-in-Ok-clause-numbers c =
    let done = c.args.done.items in
    let rest = c.pop.new.self.items in
    if-ok c.join_more.result (λ pass. numbers pass
    ≡ flat_map done_numbers rest ++ numbers c.into_pass.result)
    (λ pass. numbers pass ≡ flat_map done_numbers done)
    (λ pass is. is ∙ ap (λ ns. flat_map done_numbers rest ++ ns) c.into_pass.ensures.numbers ∙ sym
    (last-numbers done rest c.in-Some.last c.in-Ok.session
    (c.in-Some.ensures.items, c.in-Ok.is)))
    c.join_more.ensures.numbers

pub returns-in-Ok-clause-all : goal.returns-in-Ok-clause-all
returns-in-Ok-clause-all c =
    let done = c.args.done.items in
    let rest = c.pop.new.self.items in
    if-ok c.join_more.result (λ _. All IsOk rest) (λ _. All IsOk done)
    (λ pass these. all-ok done rest c.in-Some.last c.in-Ok.session
    (c.in-Some.ensures.items, c.in-Ok.is) these) c.join_more.ensures.all
