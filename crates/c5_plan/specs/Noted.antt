-- What a map of borrowed names notes of the writes before a place.
use Rattle.std.specs.Prelude.{◌≡◌, ◌≤◌, ℕ, List, length, map}
use Rattle.std.specs.Map.{lookup, keys_of}
use Rattle.std.specs.List.{IsDistinct}
use Rattle.c5_rows.specs.declared.writes.RowName.{RowName}
use Rattle.c5_plan.specs.declared.written.NameRef.{NameRef}
use Rattle.c5_plan.specs.declared.written.WrittenRow.{WrittenRow}
use Rattle.c5_definitions.specs.WriteNumbers.{is_same_name, row_count}
use Rattle.c5_plan.specs.Written.{last_write}

-- the name that is borrowed
abbrev pub name_of_ref : NameRef → RowName
name_of_ref name = record { table = name.table; key = name.key.now }

-- each name once, and of every name the number of its last write
pub record Notes (entries : List (NameRef × ℕ)) (names : List RowName) : Type 0 where
  pub distinct : IsDistinct is_same_name (map name_of_ref (keys_of entries))
  pub last : (name : RowName) → lookup (λ (n : NameRef). is_same_name name (name_of_ref n)) entries
      ≡ last_write name names

-- the same, of at most so many rows
pub record NotesUpTo (most : ℕ) (entries : List (NameRef × ℕ)) (names : List RowName) : Type 0 where
  pub notes : Notes entries names
  pub count : length entries ≡ row_count names
  pub within : length entries ≤ most

-- the row that a pair notes
abbrev pub written_row : NameRef × ℕ → WrittenRow
written_row pair = record { name = name_of_ref pair.0; last = pair.1 }

-- the rows are those of such pairs, in some order
pub record ListsNotes (rows : List WrittenRow) (names : List RowName) : Type 0 where
  pub entries : List (NameRef × ℕ)
  pub notes : Notes entries names
  pub listed : rows ≡ map written_row entries
