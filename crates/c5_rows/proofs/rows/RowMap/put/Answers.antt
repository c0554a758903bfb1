use Rattle.std.proofs.Common.{ap, ◌∙◌}
use Rattle.std.specs.FinMap as map
use Rattle.c5_rows.proofs.RowLemmas.{held_set}
use Rattle.c5_rows.proofs.rows.RowMap.put.Goals as goal

pub returns-clause-ok : goal.returns-clause-ok
returns-clause-ok g c =
    let held = g.H.HeldRow.row_held in
    held_set held c.self.inside.rows.entries c.insert.new.self.entries c.args.name.now c.args.held
    c.in_ok-insert.ensures.updates.0
    ∙ ap (λ m. map.insert m c.args.name.now (held c.args.held)) c.self.view_is
