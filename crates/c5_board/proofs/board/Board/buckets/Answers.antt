use Rattle.std.proofs.Common.{arith, ap, subst, ◌∙◌}
use Rattle.c5_definitions.proofs.IndexLemmas.{count-more, count-few}
use Rattle.c5_plan.specs.Sizes.{IsPlanned}
use Rattle.c5_board.specs.Words.{buckets_in, writes_in}
use Rattle.c5_board.specs.Boards.{Board}
use Rattle.c5_board.proofs.board.Board.buckets.Goals as goal

pub returns-clause-more : goal.returns-clause-more
returns-clause-more c =
    let e = c.self.invariant.buckets ∙ ap (λ (z : Board). buckets_in z.log) c.self.view_is in
    let more = count-more (writes_in c.args.self.now.log) in omega arith

pub returns-clause-few : goal.returns-clause-few
returns-clause-few c =
    let e = c.self.invariant.buckets ∙ ap (λ (z : Board). buckets_in z.log) c.self.view_is in
    let planned = subst (λ (z : Board). IsPlanned z.log) c.self.view_is c.self.invariant.planned in
    let few = count-few (writes_in c.args.self.now.log) planned.writes in omega arith
