use Rattle.std.proofs.Common.{◌≡◌, ◌<◌, ◌+◌, ◌-◌, ◌∙◌, ℕ, suc, length, drop, ap, arith}
use Rattle.c5_eval.specs.Setting.{pairs_of, set_by}
use Rattle.c5_eval.proofs.OwnLemmas.{tree-further}
use Rattle.c5_eval.proofs.own.tree_of.Goals as goal

pub loop-done-preserved : goal.loop-done-preserved
loop-done-preserved c =
    let writes = c.args.writes.now in
    let done = c.loop-done.done in
    let i = length writes - 1 - done in
    let lt : i < length writes = omega (arith, c.loop-done-test.true) in
    let next : length writes - done ≡ suc i = omega (arith, c.loop-done-test.true) in
    let same : i ≡ length writes - (done + 1) = omega (arith, c.loop-done-test.true) in
    record {
      ordered = c.in_ok-put.ensures.ordered;
      same = tree-further writes i
          (length writes - done) c.index-writes-writes.result c.loop-done.tree.entries
          c.put.new.values.entries lt next c.index-writes-writes.is c.loop-done.invariant.same
          c.in_ok-put.ensures.set
          ∙ ap (λ (n : ℕ). set_by (pairs_of (drop n writes))) same;
    }
