use Rattle.std.proofs.Common.{◌<◌, ◌∙◌, length, get_or, ap, sym, arith}
use Rattle.std.specs.Ordering.{eq_by_cmp}
use Rattle.c5_rows.specs.declared.writes.RowName.{RowName}
use Rattle.c5_rows.specs.Order.{row_name_cmp}
use Rattle.c5_script.proofs.Different.{is_row-held}
use Rattle.c5_script.proofs.limits.push_name.Goals as goal

pub returns-then-is_same-clause-names : goal.returns-then-is_same-clause-names
returns-then-is_same-clause-names c =
    let lt : get_or c.args.places.now c.slot_of-slot.result 0 < length c.args.names.now.items =
    omega arith in
    is_row-held c.args.names.now.items _ c.index.result.now c.args.name lt
    (ap (λ (held : RowName). eq_by_cmp row_name_cmp held c.args.name)
    (sym c.index.ensures) ∙ sym c.if-is_same.ensures)
