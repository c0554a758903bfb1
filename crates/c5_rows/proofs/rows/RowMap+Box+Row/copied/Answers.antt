use Rattle.std.proofs.Common.{ap, ◌∙◌}
use Rattle.std.specs.FinMap as map
use Rattle.c5_rows.specs.Order.{row_name_cmp}
use Rattle.c5_rows.proofs.RowLemmas.{same_held}
use Rattle.c5_rows.proofs.rows.RowMap+Box+Row.copied.Goals as goal

pub returns : goal.returns
returns c =
    ap (map.from_entries {R = row_name_cmp})
    (same_held
    (λ block. block.value) c.self.inside.rows.entries c.in_ok-clone.field-0.entries
    c.in_ok-clone.ensures.cases)
    ∙ c.self.view_is
