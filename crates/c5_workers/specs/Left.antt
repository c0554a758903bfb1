-- The writes that are left, and what installing them makes of a pass and of a worker.
use Prim.Native.Nat.{zero, suc}
use Rattle.std.specs.Prelude.{◌≡◌, ◌≤◌, ◌<◌, ◌+◌, ◌++◌, ℕ, true, List, [], ◌∷◌, drop}
use Rattle.std.specs.Prelude.{if◌then◌else◌, vec_capacity}
use Rattle.c5_rows.specs.Numbers.{is_among}
use Rattle.c5_rows.specs.declared.writes.RowName.{RowName}
use Rattle.c5_definitions.specs.WriteNumbers.{predecessor_of, IsWrite}
use Rattle.c5_board.specs.declared.known.Look.{Look}
use Rattle.c5_board.specs.declared.known.Look.TheVariants.{LoadRecord, ExchangeHead}
use Rattle.c5_board.specs.Boards.{Pass, names, record_of}
use Rattle.c5_workers.specs.declared.worker.Worker.{Worker}
use Rattle.c5_workers.specs.Work.{IsSameWorker}

-- the numbers up to n that aren't installed, ascending
abbrev pub left_up_to : List ℕ → ℕ → List ℕ
left_up_to installed zero = []
left_up_to installed (suc n) = if is_among (suc n) installed then left_up_to installed n
    else left_up_to installed n ++ suc n ∷ []

-- the looks of installing write w: of its record, and of the exchange of its row's head, which
-- finds its predecessor
abbrev pub install_looks : List RowName → ℕ → List Look
install_looks names w = LoadRecord w (record_of names w)
    ∷ ExchangeHead w (predecessor_of names w) ∷ []

-- w is a write that may be tried, and each write below it is installed
pub record IsNextLeft (p : Pass) (w : ℕ) : Type 0 where
  pub write : IsWrite (names p.board) w
  pub scheduled : w ≤ p.scheduled
  pub below : (v : ℕ) → IsWrite (names p.board) v → v < w → is_among v p.installed ≡ true

-- the pass with w installed; its looks are added if it wasn't
abbrev pub with_left : Pass → ℕ → Pass
with_left p w = record p {
  installed = if is_among w p.installed then p.installed else w ∷ p.installed;
  looks = if is_among w p.installed then p.looks else p.looks ++ install_looks (names p.board) w;
}

-- the next number after the least one was taken
abbrev pub next_after : List ℕ → ℕ → ℕ → ℕ
next_after [] next workers = next + workers
next_after (w ∷ list) next workers = next

-- the least number was taken: the first of the list, or the next number
pub record TakesLeast (old new : Worker) : Type 0 where
  pub same : IsSameWorker old new
  pub list : new.put_off.items ≡ drop 1 old.put_off.items
  pub next : new.next ≡ next_after old.put_off.items old.next old.workers
  pub room : vec_capacity new.put_off ≡ vec_capacity old.put_off
