-- What the scheduler keeps, and what a turn of it does.
use Prim.Native.Nat.{zero, suc}
use Rattle.std.specs.Prelude.{◌≡◌, ◌≤◌, ◌+◌, ◌-◌, ◌==◌, ℕ, true, List, length, slice_index}
use Rattle.std.specs.Prelude.{Option, Some, None, if◌then◌else◌}
use Rattle.c5_rows.specs.declared.writes.RowName.{RowName}
use Rattle.c5_definitions.specs.WriteNumbers.{name_at, row_of, last_on_row, IsFirstWrite}
use Rattle.c5_definitions.specs.WriteNumbers.{row_count}
use Rattle.c5_board.specs.Boards.{Pass, names, write_count}
use Rattle.c5_chains.specs.Paths.{FollowsPath}
use Rattle.c5_rows.specs.Sizes.{max_rows}

-- the number of rows with that of write w
abbrev pub rows_with : ℕ → ℕ → ℕ → ℕ
rows_with rows w row = if row == w then rows + 1 else rows

-- the number of first writes up to n
abbrev pub first_write_count : List RowName → ℕ → ℕ
first_write_count names zero = 0
first_write_count names (suc n) =
    rows_with (first_write_count names n) (suc n) (row_of names (suc n))

-- for each row, at the place of its first write, its last number up to n
pub record IsLastOfEach (names : List RowName) (last : List ℕ) (n : ℕ) : Type 0 where
  pub count : length last ≡ length names
  pub each : (row : ℕ) → IsFirstWrite names row
      → slice_index last (row - 1) ≡ last_on_row names row n

-- w is the next write to be scheduled
pub record IsNext (p : Pass) (w : ℕ) : Type 0 where
  pub role : p.scheduler ≡ true
  pub written : p.written ≡ p.scheduled
  pub indexed : p.indexed ≤ p.scheduled
  pub next : w ≡ p.scheduled + 1
  pub within : w ≤ write_count p.board

-- the same, and its row is in the index and is this one
pub record IsReadyToRecord (p : Pass) (last : List ℕ) (w row : ℕ) : Type 0 where
  pub role : p.scheduler ≡ true
  pub written : p.written ≡ p.scheduled
  pub next : w ≡ p.scheduled + 1
  pub within : w ≤ write_count p.board
  pub is_row : row ≡ row_of (names p.board) w
  pub indexed : IsFirstWrite (names p.board) w → p.indexed ≡ w
  pub kept : IsLastOfEach (names p.board) last p.scheduled

-- the row that the path of w's name leads to before w is scheduled
abbrev pub row_before : List RowName → ℕ → Option ℕ
row_before names w = if row_of names w == w then None else Some (row_of names w)

-- the path of w's name was followed
pub record LooksUp (old new : Pass) (w : ℕ) : Type 0 where
  pub name : RowName
  pub name_is : name_at (names old.board) w ≡ Some name
  pub path : FollowsPath old new name (row_before (names old.board) w)

-- the last first write that is in the index, with w
abbrev pub indexed_with : List RowName → ℕ → ℕ → ℕ
indexed_with names w indexed = if row_of names w == w then w else indexed

-- w's row was found, or was stored in the index
pub record PlacesRow (old new : Pass) (w rows row : ℕ) : Type 0 where
  pub is_row : row ≡ row_of (names old.board) w
  pub few : IsFirstWrite (names old.board) w → ¬ (rows ≡ max_rows)
  pub found : Pass
  pub looks : LooksUp old found w
  pub pass : new ≡ record found { indexed = indexed_with (names old.board) w found.indexed }

-- w is the first write of one row too many
pub record IsTooMany (old new : Pass) (w rows : ℕ) : Type 0 where
  pub first : IsFirstWrite (names old.board) w
  pub full : rows ≡ max_rows
  pub looks : LooksUp old new w

abbrev pub PlacesNext : Pass → Pass → ℕ → ℕ → Option ℕ → Type 0
PlacesNext old new w rows None = IsTooMany old new w rows
PlacesNext old new w rows (Some row) = PlacesRow old new w rows row

-- the first writes of a log are as many as its rows
abbrev pub RowsAreFirstWrites : Type 0
RowsAreFirstWrites = (names : List RowName)
    → first_write_count names (length names) ≡ row_count names
