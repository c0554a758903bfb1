-- What a row is at a number of it, and what a walk down the row looks at.
use Prim.Native.Nat.{zero, suc}
use Rattle.std.specs.Prelude.{◌≡◌, ◌≤◌, ◌<◌, ◌==◌, ◌++◌, ◌&&◌, ℕ, max, nat_lt, List, [], ◌∷◌, map}
use Rattle.std.specs.Prelude.{slice_get, Option, Some, None, if◌then◌else◌}
use Rattle.c5_rows.specs.declared.writes.Change.{Change}
use Rattle.c5_rows.specs.declared.writes.Change.TheVariants as changes
use Rattle.c5_rows.specs.declared.writes.Write.{Write}
use Rattle.c5_rows.specs.declared.writes.RowName.{RowName}
use Rattle.c5_definitions.specs.WriteNumbers.{row_of, IsWrite}
use Rattle.c5_board.specs.declared.known.Look.{Look}
use Rattle.c5_board.specs.declared.known.Look.TheVariants.{LoadHead, LoadRecord}
use Rattle.c5_board.specs.Boards.{Pass, names, record_of}
use Rattle.c5_board.specs.Passes.{IsHeadOf}
use Rattle.c5_chains.specs.declared.at.At.{At}
use Rattle.c5_chains.specs.declared.at.At.TheVariants.{Put, Gone, Before}

-- what a change makes of a row
abbrev pub at_change : Change → At
at_change (changes.Put row) = Put row
at_change changes.Gone = Gone

abbrev pub at_change_of : Option Write → At
at_change_of None = Before
at_change_of (Some write) = at_change write.change

-- what write w makes of its row; 0 isn't a write
abbrev pub at_number : List Write → ℕ → At
at_number writes zero = Before
at_number writes (suc i) = at_change_of (slice_get writes i)

-- the numbers on the row from n down to the last above the end
abbrev pub numbers_above : List RowName → ℕ → ℕ → ℕ → List ℕ
numbers_above names row end zero = []
numbers_above names row end (suc n) =
    if nat_lt end (suc n) && (row_of names (suc n) == row)
    then suc n ∷ numbers_above names row end n else numbers_above names row end n

-- the row's head was loaded, and then the record of each number of the row from it down to the last
-- above the end
pub record FollowsRow (old new : Pass) (row end : ℕ) : Type 0 where
  pub head : ℕ
  pub is_head : IsHeadOf (names old.board) row head
  pub pass : new ≡ record old {
    scheduled = max old.scheduled head;
    looks = old.looks ++ LoadHead row head
        ∷ map (λ w. LoadRecord w (record_of (names old.board) w))
        (numbers_above (names old.board) row end head);
  }

-- the same so far: w comes next, and no number of the row up to the end is above it
pub record IsWalking (old now : Pass) (row end head w : ℕ) : Type 0 where
  pub visited : List ℕ
  pub left : visited ++ numbers_above (names old.board) row end w
      ≡ numbers_above (names old.board) row end head
  pub pass : now ≡ record old {
    scheduled = max old.scheduled head;
    looks = old.looks ++ LoadHead row head
        ∷ map (λ w. LoadRecord w (record_of (names old.board) w)) visited;
  }
  pub not_above : w ≤ head
  pub is_head : IsHeadOf (names old.board) row w
  pub greatest : (v : ℕ) → IsWrite (names old.board) v → row_of (names old.board) v ≡ row → v ≤ end
      → v ≤ w

-- the same, from the head that was found
pub record IsWalkingDown (old now : Pass) (row end w : ℕ) : Type 0 where
  pub head : ℕ
  pub is_head : IsHeadOf (names old.board) row head
  pub walking : IsWalking old now row end head w
