-- The rows that a log writes, and the number of the last write of each.
use Rattle.std.specs.Prelude.{◌≡◌, ◌+◌, ℕ, List, [], ◌∷◌, length, map, Option, Some, None}
use Rattle.std.specs.Prelude.{if◌then◌else◌}
use Rattle.std.specs.Option.{option_or}
use Rattle.std.specs.List.Sorted.{IsStrictlySortedBy}
use Rattle.std.specs.Map.{lookup}
use Rattle.c5_rows.specs.declared.writes.RowName.{RowName}
use Rattle.c5_rows.specs.Order.{row_name_cmp}
use Rattle.c5_definitions.specs.WriteNumbers.{is_same_name, row_count}
use Rattle.c5_plan.specs.declared.written.WrittenRow.{WrittenRow}

-- the number of the last write of this name, if the first of the names has this number
abbrev pub last_from : RowName → ℕ → List RowName → Option ℕ
last_from name first [] = None
last_from name first (other ∷ names) =
    option_or (last_from name (first + 1) names)
    (if is_same_name name other then Some first else None)

-- the number of the last write of this name, counted from 1
abbrev pub last_write : RowName → List RowName → Option ℕ
last_write name names = last_from name 1 names

-- the number beside the row of this name
abbrev pub last_in : RowName → List WrittenRow → Option ℕ
last_in name rows = lookup (is_same_name name) (map (λ (r : WrittenRow). (r.name, r.last)) rows)

-- each row that writes with these names write, once and by ascending name, with the number of its
-- last write
pub record AreWrittenRows (rows : List WrittenRow) (names : List RowName) : Type 0 where
  pub ascending : IsStrictlySortedBy row_name_cmp (map (λ (r : WrittenRow). r.name) rows)
  pub last : (name : RowName) → last_in name rows ≡ last_write name names
  pub count : length rows ≡ row_count names
