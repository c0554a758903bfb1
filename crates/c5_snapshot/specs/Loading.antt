-- What the loads of the first workers' progress have found.
use Rattle.std.specs.Prelude.{◌≡◌, ◌≤◌, ◌<◌, ◌++◌, ℕ, true, List, [], ◌∷◌, length, take}
use Rattle.c5_definitions.specs.WriteNumbers.{end_of}
use Rattle.c5_rows.specs.Numbers.{is_among}
use Rattle.c5_board.specs.Boards.{Pass, IsWorker}
use Rattle.c5_board.specs.Passes.{floor_of}
use Rattle.c5_snapshot.specs.Advances.{progress_loads}

-- the number is the floor of a worker up to n
pub record IsFloorUpTo (p : Pass) (n least : ℕ) : Type 0 where
  pub worker : ℕ
  pub is_worker : IsWorker n worker
  pub is_floor : floor_of p worker ≡ least

-- the progress of the workers up to n was loaded, and this is the least of them
pub record HasLoaded (old new : Pass) (n least : ℕ) : Type 0 where
  pub pass : new
      ≡ record old {
        floors = new.floors;
        looks = old.looks ++ progress_loads 1 (take n new.floors);
      }
  pub count : length new.floors ≡ length old.floors
  pub rise : (i : ℕ) → 1 ≤ i → floor_of old i ≤ floor_of new i
  pub own : (i : ℕ) → 1 ≤ i → is_among i old.roles ≡ true → floor_of new i ≡ floor_of old i
  pub above : (i : ℕ) → 1 ≤ i → i ≤ n → end_of old.board.log.txns old.place < floor_of new i
  pub among : 1 ≤ n → IsFloorUpTo new n least
  pub not_above : (i : ℕ) → 1 ≤ i → i ≤ n → least ≤ floor_of new i
  pub positive : 1 ≤ least
