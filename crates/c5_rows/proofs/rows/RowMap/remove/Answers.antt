use Rattle.std.proofs.Common.{ap, ◌∙◌}
use Rattle.std.specs.FinMap as map
use Rattle.c5_rows.proofs.RowLemmas.{held_gone}
use Rattle.c5_rows.proofs.rows.RowMap.remove.Goals as goal

pub returns : goal.returns
returns g c =
    held_gone g.H.HeldRow.row_held c.self.inside.rows.entries c.remove.new.self.entries
    c.args.name.now c.remove.ensures.updates.0
    ∙ ap (λ m. map.remove m c.args.name.now) c.self.view_is
