-- Rows that are written.
use Rattle.std.specs.Prelude.{Bool, List}
use Rattle.std.specs.Set.{is_member}
use Rattle.std.specs.Ordering.{eq_by_cmp}
use Rattle.c5_rows.specs.declared.writes.RowName.{RowName}
use Rattle.c5_rows.specs.Order.{row_name_cmp}

-- one of the names is this one
abbrev pub is_row : List RowName → RowName → Bool
is_row names name = is_member (eq_by_cmp row_name_cmp) names name
