use Rattle.std.proofs.Common.{◌≡◌, ◌||◌, length, drop}
use Rattle.c5_rows.specs.declared.writes.RowName.{RowName}
use Rattle.c5_definitions.specs.Limits.{written_names}
use Rattle.c5_script.specs.Rows.{is_row}
use Rattle.c5_script.proofs.limits.push_all_names.Given as goal

-- with those of the bodies that are left the names are all
abbrev pub invariant-loop-body : goal.invariant-loop-body
invariant-loop-body l = (length l.places ≡ 131072)
    × ((q : RowName)
    → (is_row l.names.items q || is_row (written_names (drop l.body-index l.bodies)) q)
    ≡ (is_row l.initial.names.items q || is_row (written_names l.bodies) q))
