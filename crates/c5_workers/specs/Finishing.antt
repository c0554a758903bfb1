-- What is left of a log, and what installing it makes of a pass.
use Rattle.std.specs.Prelude.{◌≡◌, ◌≤◌, ◌<◌, ◌+◌, ◌++◌, ℕ, true, List, length, slice_get, Some}
use Rattle.std.specs.List.{flat_map}
use Rattle.c5_rows.specs.Numbers.{is_among}
use Rattle.c5_definitions.specs.WriteNumbers.{IsWrite}
use Rattle.c5_board.specs.Boards.{Pass, names, write_count, IsWorker}
use Rattle.c5_board.specs.Passes.{floor_of, owner_in}
use Rattle.c5_workers.specs.declared.worker.Worker.{Worker}
use Rattle.c5_workers.specs.Left.{left_up_to, install_looks}
use Rattle.c5_workers.specs.Work.{FitsWorker}

-- the workers of the pass in order, worker 1 first, each of which fits it
pub record AreWorkersOf (p : Pass) (workers : List Worker) : Type 0 where
  pub count : length workers ≡ p.board.workers
  pub order : (k : ℕ) (w : Worker) → slice_get workers k ≡ Some w → w.i ≡ k + 1
  pub each : (k : ℕ) (w : Worker) → slice_get workers k ≡ Some w → FitsWorker w p

-- x is the least number that worker i owns above those of the writes
pub record IsAboveWrites (p : Pass) (i x : ℕ) : Type 0 where
  pub above : write_count p.board < x
  pub owned : owner_in p x ≡ i
  pub least : (v : ℕ) → write_count p.board < v → owner_in p v ≡ i → x ≤ v

-- each write that was left is installed, in the order of the numbers, and progress is stored
pub record Finishes (old new : Pass) : Type 0 where
  pub pass : new ≡ record old {
    installed = new.installed;
    floors = new.floors;
    looks = old.looks ++ flat_map (install_looks (names old.board))
        (left_up_to old.installed (write_count old.board));
  }
  pub installed : (w : ℕ) → IsWrite (names old.board) w → is_among w new.installed ≡ true
  pub floors : (i : ℕ) → IsWorker old.board.workers i → IsAboveWrites new i (floor_of new i)

-- the writes up to n that were left are installed, in order, and none above it
pub record HasInstalled (old now : Pass) (n : ℕ) : Type 0 where
  pub pass : now ≡ record old {
    installed = now.installed;
    looks = old.looks ++ flat_map (install_looks (names old.board)) (left_up_to old.installed n);
  }
  pub below : (w : ℕ) → IsWrite (names old.board) w → w ≤ n → is_among w now.installed ≡ true
  pub above : (w : ℕ) → n < w → is_among w now.installed ≡ is_among w old.installed

-- each write is installed
abbrev pub AreAllInstalled : Pass → Type 0
AreAllInstalled p = (w : ℕ) → IsWrite (names p.board) w → is_among w p.installed ≡ true

-- the progress of the workers up to n is stored
pub record HasStored (old now : Pass) (n : ℕ) : Type 0 where
  pub pass : now ≡ record old { floors = now.floors }
  pub floors : (i : ℕ) → IsWorker n i → IsAboveWrites now i (floor_of now i)
