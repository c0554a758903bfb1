use Rattle.std.proofs.Common.{◌≡◌, ap, ◌∙◌, map}
use Rattle.c5_rows.specs.State.{entry_of}
use Rattle.c5_rows.specs.Held.{rows_held}
use Rattle.c5_rows.proofs.rows.RowMap.list.Goals as goal

pub loop-name-init : goal.loop-name-init
loop-name-init g c =
    let all : c.into_iter-name-iterator.result ≡ c.iter-name-items.result = cc in
    rw c.in_ok-list.ensures.items
    (ap (λ held. map entry_of (rows_held g.H.HeldRow.row_held held)) all
    ∙ c.iter-name-items.ensures.rows)
