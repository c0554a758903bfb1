use Rattle.std.proofs.Common.{◌≡◌, ◌<◌, ap, sym, ◌∙◌, arith, length, get_or, take}
use Rattle.c5_rows.specs.State.{after_change, after_writes}
use Rattle.c5_rows.proofs.RowLemmas.{after_writes-more}
use Rattle.c5_rows.proofs.rows.RowMap+Box+Row.apply.Goals as goal

pub loop-applied-preserved : goal.loop-applied-preserved
loop-applied-preserved c =
    let writes = c.args.txn.now.writes in
    let i = c.loop-applied.applied in
    let write = c.write-item.result in
    let same = c.loop-applied.invariant.0 in
    let within : i < length writes = omega (arith, ap length same) in
    let item : write ≡ get_or writes i write =
    c.write-item.is ∙ ap (λ ws. get_or ws i write) same in (
      same,
      c.in-Ok.ensures.ok
          ∙ ap (after_change write.name write.change) c.loop-applied.invariant.1
          ∙ ap (λ w. after_change w.name w.change (after_writes (take i writes) c.args.self.now))
          item
          ∙ sym (after_writes-more writes i write c.args.self.now within),
    )
