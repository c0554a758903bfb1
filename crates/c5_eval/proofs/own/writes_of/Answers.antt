use Rattle.std.proofs.Common.{◌≡◌, ◌∙◌, ap, sym, map}
use Rattle.c5_eval.specs.Setting.{set_by}
use Rattle.c5_eval.proofs.OwnLemmas.{write_at, own_writes-made, next_write}
use Rattle.c5_eval.proofs.own.writes_of.Goals as goal

pub loop-name-init : goal.loop-name-init
loop-name-init c =
    let es = c.args.tree.now.entries in
    let all : c.into_iter-name-iterator.result ≡ es = cc in
    rw c.in_ok-writes.ensures
    (ap (map write_at) all ∙ sym (own_writes-made es c.requires))

pub loop-name-preserved : goal.loop-name-preserved
loop-name-preserved c =
    rw c.in_ok-set.ensures.ok
    (next_write
    (set_by c.args.tree.now.entries) c.loop-name.writes c.loop-name.name-iterator
    c.next.new.self c.in-Some.name.now c.in-Some.change.now c.in-Some.ensures.steps
    c.loop-name.invariant)
