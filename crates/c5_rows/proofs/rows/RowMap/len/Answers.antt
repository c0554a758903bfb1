use Rattle.std.proofs.Common.{ap, sym, ◌∙◌}
use Rattle.std.specs.FinMap as map
use Rattle.c5_rows.specs.Held.{rows_held}
use Rattle.c5_rows.proofs.RowLemmas.{len_back, up_held, length_held}
use Rattle.c5_rows.proofs.rows.RowMap.len.Goals as goal

pub returns : goal.returns
returns g c =
    let row = g.H.HeldRow.row_held in
    let es = c.self.inside.rows.entries in
    c.len.ensures.len ∙ sym
    (len_back (rows_held row es) (up_held row es c.self.invariant) ∙ length_held row es) ∙ ap
    (λ m. map.len m) c.self.view_is
