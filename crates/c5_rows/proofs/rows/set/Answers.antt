use Rattle.std.proofs.Common.{List, refl, ap, ◌∙◌}
use Rattle.std.specs.FinMap as map
use Rattle.std.specs.Box.{with_value}
use Rattle.c5_rows.specs.declared.cells.Cell.{Cell}
use Rattle.c5_rows.specs.Held.{rows_held}
use Rattle.c5_rows.specs.Order.{row_name_cmp}
use Rattle.c5_rows.proofs.RowLemmas.{held_set}
use Rattle.c5_rows.proofs.rows.set.Goals as goal

pub returns-in-Some-clause-ok : goal.returns-in-Some-clause-ok
returns-in-Some-clause-ok c =
    let written = with_value c.in-Some.old.now c.args.row.now in
    held_set (λ block. block.value) c.args.rows.now.entries
    (c.get_mut.follows.lender written).entries c.args.name.now written
    ((c.get_mut.follows.holds written).3 (rw (← c.in-Some.ensures.value) refl)).0

pub returns-in_ok-insert-in-None-clause-ok : goal.returns-in_ok-insert-in-None-clause-ok
returns-in_ok-insert-in-None-clause-ok c =
    let es = c.args.rows.now.entries in
    held_set (λ block. block.value) es c.insert.new.self.entries c.args.name.now
    c.in_ok-block-in-None.block
    (rw (← c.get_mut.follows.holds-at-none) c.in_ok-insert-in-None.ensures.updates.0)
    ∙ ap (λ (row : List Cell). map.insert
    (map.from_entries {R = row_name_cmp} (rows_held (λ block. block.value) es)) c.args.name.now
    row) c.in_ok-block-in-None.ensures.ok
