use Rattle.std.proofs.Common.{◌≡◌, ◌||◌, length, drop}
use Rattle.std.specs.List.{filter_map}
use Rattle.c5_rows.specs.declared.writes.RowName.{RowName}
use Rattle.c5_definitions.specs.Limits.{written_name}
use Rattle.c5_script.specs.Rows.{is_row}
use Rattle.c5_script.proofs.limits.push_names.Given as goal

-- with those that are left the names are all
abbrev pub invariant-loop-statement : goal.invariant-loop-statement
invariant-loop-statement l = (length l.places ≡ 131072)
    × ((q : RowName)
    → (is_row l.names.items q || is_row
    (filter_map written_name (drop l.statement-index l.statements)) q)
    ≡ (is_row l.initial.names.items q || is_row (filter_map written_name l.statements) q))
