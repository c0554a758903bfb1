-- Rows at a place, so far.
use Rattle.std.specs.Prelude.{◌≡◌, ◌≤◌, ◌<◌, ◌++◌, ℕ, List, Some}
use Rattle.std.specs.FinMap.{get}
use Rattle.c5_rows.specs.declared.writes.RowName.{RowName}
use Rattle.c5_rows.specs.State.{State}
use Rattle.c5_definitions.specs.WriteNumbers.{name_at, IsWrite}
use Rattle.c5_board.specs.declared.known.Look.{Look}
use Rattle.c5_board.specs.Boards.{Pass, names}
use Rattle.c5_reads.specs.Looks.{AreWithin, loads_of_write, loads_of_rows}

-- the rows of the first w writes are the state's, and those of no such write are the start's
pub record IsFilled (names : List RowName) (start state rows : State) (w : ℕ) : Type 0 where
  pub filled : (v : ℕ) (name : RowName) → IsWrite names v → v ≤ w → name_at names v ≡ Some name
      → get rows name ≡ get state name
  pub left : (name : RowName)
      → ((v : ℕ) → IsWrite names v → name_at names v ≡ Some name → w < v)
      → get rows name ≡ get start name

-- the loads for write w are among the looks that were added
pub record LooksForWrite (old new : Pass) (w : ℕ) : Type 0 where
  pub more : List Look
  pub added : new.looks ≡ old.looks ++ more
  pub within : AreWithin (loads_of_write (names old.board) w) more

-- the loads for each write up to n are among the looks that were added
pub record LooksForWrites (old new : Pass) (n : ℕ) : Type 0 where
  pub more : List Look
  pub added : new.looks ≡ old.looks ++ more
  pub within : AreWithin (loads_of_rows (names old.board) n) more
