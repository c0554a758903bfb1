use Rattle.std.proofs.Common.{ap, sym, ◌∙◌}
use Rattle.std.specs.FinMap as map
use Rattle.std.specs.Option.{option_map}
use Rattle.c5_rows.specs.Held.{rows_held}
use Rattle.c5_rows.proofs.RowLemmas.{get_row, row_at_held}
use Rattle.c5_rows.proofs.rows.RowMap.find.Goals as goal

pub returns : goal.returns
returns g c =
    let row = g.H.HeldRow.row_held in
    let es = c.self.inside.rows.entries in
    let name = c.args.name.now in
    ap (option_map row) c.get.ensures.value
    ∙ sym (get_row (rows_held row es) name ∙ row_at_held row es name)
    ∙ ap (λ m. map.get m name) c.self.view_is
