use Rattle.std.proofs.Common.{◌%◌, ◌<◌, ap, ◌∙◌, arith}
use Rattle.std.proofs.Math.Nat.{mod-lt}
use Rattle.c5_definitions.specs.RowIndex.{start_of}
use Rattle.c5_definitions.proofs.IndexLemmas.{count-two, count-few}
use Rattle.c5_board.specs.Words.{buckets_in, writes_in}
use Rattle.c5_board.specs.Boards.{Board}
use Rattle.c5_board.proofs.board.Board.start.Goals as goal

pub nonzero_rem-result : goal.nonzero_rem-result
nonzero_rem-result c = let e = c.self.invariant.buckets in
    let two = count-two (writes_in c.self.inside.plan.now) in omega arith

pub overflow_cast-result-2 : goal.overflow_cast-result-2
overflow_cast-result-2 c =
    let e = c.self.invariant.buckets in let two = count-two (writes_in c.self.inside.plan.now) in
    let few = count-few (writes_in c.self.inside.plan.now) c.self.invariant.planned.writes in
    let h : c.name_hash.result % c.self.inside.buckets < c.self.inside.buckets =
    mod-lt c.name_hash.result (omega arith) in omega arith

pub returns-clause-value : goal.returns-clause-value
unfolding start_of
returns-clause-value c =
    let e = c.self.invariant.buckets ∙ ap (λ (z : Board). buckets_in z.log) c.self.view_is in
    (λ t. c.name_hash.ensures t % e t)

pub returns-clause-within : goal.returns-clause-within
returns-clause-within c =
    let e = c.self.invariant.buckets ∙ ap (λ (z : Board). buckets_in z.log) c.self.view_is in
    let two = count-two (writes_in c.self.inside.plan.now) in let same = c.self.invariant.buckets in
    let h : c.name_hash.result % c.self.inside.buckets < c.self.inside.buckets =
    mod-lt c.name_hash.result (omega arith) in omega arith
