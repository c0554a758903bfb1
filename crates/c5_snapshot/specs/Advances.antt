-- What a turn of the snapshot finds.
use Rattle.std.specs.Prelude.{◌≡◌, ◌≤◌, ◌+◌, ◌++◌, ℕ, true, List, [], ◌∷◌, length, Contains, All}
use Rattle.std.specs.Prelude.{max}
use Rattle.c5_definitions.specs.WriteNumbers.{end_of}
use Rattle.c5_board.specs.declared.known.Look.{Look}
use Rattle.c5_board.specs.declared.known.Look.TheVariants.{LoadProgress}
use Rattle.c5_rows.specs.Numbers.{is_among}
use Rattle.c5_board.specs.Boards.{Pass, IsWorker}
use Rattle.c5_board.specs.Passes.{floor_of}

-- one load of the progress of each worker, from worker i on
abbrev pub progress_loads : ℕ → List ℕ → List Look
progress_loads i [] = []
progress_loads i (found ∷ rest) = LoadProgress i found ∷ progress_loads (i + 1) rest

-- the progress of each worker was loaded, which the pass knows from then on: none has fallen, and
-- those of its own roles are as it knew
pub record LoadsEachProgress (old new : Pass) : Type 0 where
  pub count : length new.floors ≡ old.board.workers
  pub rise : (i : ℕ) → IsWorker old.board.workers i → floor_of old i ≤ floor_of new i
  pub own : (i : ℕ) → IsWorker old.board.workers i → is_among i old.roles ≡ true
      → floor_of new i ≡ floor_of old i

-- the least of the numbers
pub record IsLeastOf (least : ℕ) (numbers : List ℕ) : Type 0 where
  pub among : Contains numbers least
  pub not_above : All (λ x. least ≤ x) numbers

-- the pass after each progress was loaded and the place was made visible
abbrev pub advanced : Pass → List ℕ → ℕ → Pass
advanced p found place = record p {
  floors = found;
  place = place;
  scheduled = max p.scheduled (end_of p.board.log.txns place);
  looks = p.looks ++ progress_loads 1 found;
}
