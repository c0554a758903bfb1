use Rattle.std.proofs.Common.{◌∙◌, ap, sym, subst}
use Rattle.c5_rows.specs.Writes.{IsAscending, put_write}
use Rattle.c5_order.proofs.CopyLemmas.{put-next}
use Rattle.c5_order.proofs.committing.copied.Goals as goal

pub loop-write-preserved : goal.loop-write-preserved
loop-write-preserved c =
    c.in_ok-set.ensures.ok ∙ ap (put_write c.write-item.result) c.loop-write.invariant
    ∙ put-next c.as_slice-list.result.now c.loop-write.write-index c.write-item.result
    c.loop-write-test.true c.write-item.is
    (subst IsAscending (sym c.as_slice-list.ensures.value) c.as_slice-list.ensures.ascending)
