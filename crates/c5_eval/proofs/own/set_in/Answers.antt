use Rattle.std.proofs.Common.{List, ◌∙◌, ap, sym}
use Rattle.std.specs.FinMap as map
use Rattle.c5_rows.specs.declared.writes.Write.{Write}
use Rattle.c5_eval.specs.Setting.{row_made, pairs_of, set_by}
use Rattle.c5_eval.specs.Held.{held_by}
use Rattle.c5_eval.proofs.OwnLemmas.{one_set}
use Rattle.c5_eval.proofs.OwnInWrites.{set_by-put_write}
use Rattle.c5_eval.proofs.own.set_in.Goals as goal

pub returns-in_ok-put-in-Some-clause-set : goal.returns-in_ok-put-in-Some-clause-set
returns-in_ok-put-in-Some-clause-set c =
    one_set c.in-Some.tree.entries c.put.new.values.entries c.args.name.now c.args.change
    c.in_ok-put-in-Some.ensures.set
    ∙ ap (λ tree. map.insert (set_by (held_by c.args.writes.now tree)) c.args.name.now
    (row_made c.args.change)) (sym c.in-Some.is)

pub returns-in_ok-set-in-None-clause-set : goal.returns-in_ok-set-in-None-clause-set
returns-in_ok-set-in-None-clause-set c =
    let write : Write = record { name = c.args.name.now; change = c.args.change } in
    ap (λ tree. set_by (held_by c.set.new.self tree)) c.in-None.is
    ∙ ap (λ (writes : List Write). set_by (pairs_of writes)) c.in_ok-set-in-None.ensures.ok
    ∙ set_by-put_write write c.args.writes.now c.as_slice-writes.ensures.ascending
    ∙ ap (λ tree. map.insert (set_by (held_by c.args.writes.now tree)) c.args.name.now
    (row_made c.args.change)) (sym c.in-None.is)
