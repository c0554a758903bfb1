-- What a row is after the first transactions of a log.
use Rattle.std.specs.Prelude.{◌≡◌, ◌<◌, ℕ, List, Option, Some, None}
use Rattle.std.specs.FinMap.{get}
use Rattle.c5_rows.specs.declared.cells.Cell.{Cell}
use Rattle.c5_rows.specs.declared.writes.RowName.{RowName}
use Rattle.c5_rows.specs.declared.writes.Txn.{Txn}
use Rattle.c5_rows.specs.State.{State, state_after}
use Rattle.c5_definitions.specs.WriteNumbers.{names_in, name_at, last_on_row, end_of, IsWrite}
use Rattle.c5_definitions.specs.WriteNumbers.{IsFirstWrite}
use Rattle.c5_frames.specs.Index.{writes_of}
use Rattle.c5_chains.specs.declared.at.At.{At}
use Rattle.c5_chains.specs.declared.at.At.TheVariants.{Put, Gone, Before}
use Rattle.c5_chains.specs.Chains.{at_number}

-- the row that is there, if it was this one before the log
abbrev pub row_or_before : At → Option (List Cell) → Option (List Cell)
row_or_before (Put row) before = Some row
row_or_before Gone before = None
row_or_before Before before = before

-- each row is what its last write up to the end of the place made of it, and that of the start if
-- it has none
pub record RowsAreOfLastWrites (start : State) (txns : List Txn) (place : ℕ) : Type 0 where
  pub written : (name : RowName) (row : ℕ) → IsFirstWrite (names_in txns) row
      → name_at (names_in txns) row ≡ Some name
      → get (state_after start txns place) name
      ≡ row_or_before (at_number (writes_of txns)
      (last_on_row (names_in txns) row (end_of txns place))) (get start name)
  pub unwritten : (name : RowName)
      → ((w : ℕ) → IsWrite (names_in txns) w → name_at (names_in txns) w ≡ Some name
      → end_of txns place < w)
      → get (state_after start txns place) name ≡ get start name
