-- What follows of the numbers of writes, of places and of owners.
use Rattle.std.specs.Prelude.{◌≡◌, ◌≢◌, ◌≤◌, ◌<◌, ◌+◌, ℕ, List, length, Some}
use Rattle.c5_rows.specs.declared.writes.RowName.{RowName}
use Rattle.c5_rows.specs.declared.writes.Txn.{Txn}
use Rattle.c5_definitions.specs.WriteNumbers.{names_in, name_at, row_of, last_on_row}
use Rattle.c5_definitions.specs.WriteNumbers.{predecessor_of, end_of, place_below, owner_of}
use Rattle.c5_definitions.specs.WriteNumbers.{IsWrite, IsFirstWrite}

-- a row's number is that of its first write, and two writes are on one row if they have one name
pub record RowsAreNumbered (names : List RowName) : Type 0 where
  pub first : (w : ℕ) → IsWrite names w → IsFirstWrite names (row_of names w)
  pub not_above : (w : ℕ) → row_of names w ≤ w
  pub has_name : (w : ℕ) → IsWrite names w → (name : RowName) × (name_at names w ≡ Some name)
  pub one_name : (v w : ℕ) → IsWrite names v → IsWrite names w → row_of names v ≡ row_of names w
      → name_at names v ≡ name_at names w
  pub one_row : (v w : ℕ) → IsWrite names v → IsWrite names w → name_at names v ≡ name_at names w
      → row_of names v ≡ row_of names w

-- a number on this row, up to n, and no number of the row is between them; or 0
pub record IsLastOnRow (names : List RowName) (row n last : ℕ) : Type 0 where
  pub within : last ≤ n
  pub on_row : last ≢ 0 → IsWrite names last × (row_of names last ≡ row)
  pub greatest : (v : ℕ) → IsWrite names v → row_of names v ≡ row → v ≤ n → v ≤ last

-- a predecessor is below its write, and last_on_row is what its name says
pub record PredecessorsAreLast (names : List RowName) : Type 0 where
  pub below : (w : ℕ) → IsWrite names w → predecessor_of names w < w
  pub on_row : (w : ℕ) → IsWrite names w → predecessor_of names w ≢ 0
      → IsWrite names (predecessor_of names w)
      × (row_of names (predecessor_of names w) ≡ row_of names w)
  pub greatest : (v w : ℕ) → IsWrite names v → IsWrite names w → row_of names v ≡ row_of names w
      → v < w → v ≤ predecessor_of names w
  pub last : (row n : ℕ) → IsFirstWrite names row
      → IsLastOnRow names row n (last_on_row names row n)

-- ends ascend from 0 to the number of writes, and place_below is what its name says
pub record PlacesEnd (txns : List Txn) : Type 0 where
  pub none : end_of txns 0 ≡ 0
  pub all : end_of txns (length txns) ≡ length (names_in txns)
  pub ascend : (p q : ℕ) → p ≤ q → end_of txns p ≤ end_of txns q
  pub within : (p : ℕ) → end_of txns p ≤ length (names_in txns)
  pub place : (x : ℕ) → place_below txns x ≤ length txns
  pub below : (x : ℕ) → 1 ≤ x → end_of txns (place_below txns x) < x
  pub greatest : (x p : ℕ) → p ≤ length txns → end_of txns p < x → p ≤ place_below txns x

-- each number has one owner, who owns every workers-th number from its own on
pub record NumbersAreOwned (workers : ℕ) : Type 0 where
  pub some : (w : ℕ) → 1 ≤ owner_of workers w
  pub worker : (w : ℕ) → owner_of workers w ≤ workers
  pub own : (i : ℕ) → 1 ≤ i → i ≤ workers → owner_of workers i ≡ i
  pub next : (w : ℕ) → 1 ≤ w → owner_of workers (w + workers) ≡ owner_of workers w
  pub none_between : (v w : ℕ) → 1 ≤ v → v < w → owner_of workers v ≡ owner_of workers w
      → v + workers ≤ w
