-- What is found by a name.
use Rattle.std.specs.Prelude.{◌≡◌, ◌≤◌, ◌<◌, ◌+◌, ℕ, true, Option, Some, None}
use Rattle.c5_rows.specs.declared.writes.RowName.{RowName}
use Rattle.c5_definitions.specs.WriteNumbers.{name_at, IsWrite, IsFirstWrite}
use Rattle.c5_definitions.specs.RowIndex.{IsSlot}
use Rattle.c5_board.specs.Boards.{Pass, names}
use Rattle.c5_chains.specs.declared.path_end.PathEnd.{PathEnd}
use Rattle.c5_chains.specs.declared.path_end.PathEnd.TheVariants.{Row, Free}

-- the number of the row of this name
pub record IsNumberOfRow (p : Pass) (name : RowName) (row : ℕ) : Type 0 where
  pub first : IsFirstWrite (names p.board) row
  pub name_is : name_at (names p.board) row ≡ Some name
  pub own : p.scheduler ≡ true → row ≤ p.indexed

-- no write of this name is scheduled, as far as the pass knows
abbrev pub IsAbsent : Pass → RowName → Type 0
IsAbsent p name = (w : ℕ) → IsWrite (names p.board) w → name_at (names p.board) w ≡ Some name
    → p.scheduled < w

abbrev pub IsFound : Pass → RowName → Option ℕ → Type 0
IsFound p name (Some row) = IsNumberOfRow p name row
IsFound p name None = IsAbsent p name

-- the bucket is the slot of the first write of this name, if that is the next to be scheduled
pub record IsFree (p : Pass) (name : RowName) (bucket : ℕ) : Type 0 where
  pub absent : IsAbsent p name
  pub slot : (w : ℕ) → IsFirstWrite (names p.board) w → name_at (names p.board) w ≡ Some name
      → w ≤ p.scheduled + 1 → IsSlot (names p.board) w bucket

abbrev pub EndsAt : Pass → RowName → PathEnd → Type 0
EndsAt p name (Row row) = IsNumberOfRow p name row
EndsAt p name (Free bucket) = IsFree p name bucket

abbrev pub row_at_end : PathEnd → Option ℕ
row_at_end (Row row) = Some row
row_at_end (Free bucket) = None
