-- When a worker fits a pass, and what its turns come to.
use Rattle.std.specs.Prelude.{true, false, ◌≡◌, ◌≢◌, ◌≤◌, ◌<◌, ◌+◌, ◌++◌, ◌⊎◌, ℕ, List, [], ◌∷◌}
use Rattle.std.specs.Prelude.{length, Option, Some, None, vec_capacity}
use Rattle.c5_board.specs.declared.known.Look.{Look}
use Rattle.c5_board.specs.declared.known.Look.TheVariants.{LoadScheduled}
use Rattle.c5_board.specs.Sets.{with_number}
use Rattle.c5_rows.specs.Numbers.{is_among}
use Rattle.c5_board.specs.Passes.{owner_in, floor_of}
use Rattle.c5_board.specs.Boards.{Pass, names, write_count, IsWorker}
use Rattle.c5_chains.specs.declared.install.Install.{Install}
use Rattle.c5_chains.specs.declared.install.Install.TheVariants.{Installed, PutOff}
use Rattle.c5_chains.specs.Tries.{after_try, head_found, IsCaused}
use Rattle.c5_workers.specs.declared.worker.Worker.{Worker}
use Rattle.c5_workers.specs.declared.work_turn.WorkTurn.{WorkTurn}
use Rattle.c5_workers.specs.declared.work_turn.WorkTurn.TheVariants.{Did, NotYet, Done}
use Rattle.c5_workers.specs.Tries.{FitsList, Retries, least_of, with_next}
use Rattle.c5_rows.specs.Sizes.{max_workers, max_put_off}

-- the worker is one of the board's, and its numbers and its list are those of the pass
pub record FitsWorker (w : Worker) (p : Pass) : Type 0 where
  pub workers : w.workers ≡ p.board.workers
  pub worker : IsWorker w.workers w.i
  pub few_workers : w.workers ≤ max_workers
  pub numbers : FitsList w.i w.next w.put_off.items p
  pub few : length w.put_off.items ≤ max_put_off
  pub room : max_put_off ≤ vec_capacity w.put_off

-- nothing was tried, and there is room for 64 numbers
pub record IsNewWorker (w : Worker) (i workers : ℕ) : Type 0 where
  pub worker : w.i ≡ i
  pub of_workers : w.workers ≡ workers
  pub next : w.next ≡ i
  pub none : w.put_off.items ≡ []
  pub room : max_put_off ≤ vec_capacity w.put_off

-- it fits each pass with its role that has installed none of its numbers
abbrev pub FitsUnworked : Worker → ℕ → ℕ → Type 0
FitsUnworked w i workers = (p : Pass) → p.board.workers ≡ workers → is_among i p.roles ≡ true
    → ((v : ℕ) → owner_in p v ≡ i → is_among v p.installed ≡ false) → FitsWorker w p

-- the same worker of the same workers
pub record IsSameWorker (old new : Worker) : Type 0 where
  pub i : new.i ≡ old.i
  pub workers : new.workers ≡ old.workers

-- the next number was tried
pub record HasTriedNext (old new : Worker) (p q : Pass) (result : Install) : Type 0 where
  pub same : IsSameWorker old new
  pub room : length old.put_off.items < max_put_off
  pub scheduled : old.next ≤ p.scheduled
  pub cause : IsCaused p old.next result
  pub pass : q ≡ after_try p old.next (head_found (names p.board) old.next result)
  pub next : new.next ≡ old.next + old.workers
  pub list : new.put_off.items ≡ with_next old.put_off.items old.next result

-- the next number was tried if there was room for it and it is scheduled, and only then
abbrev pub TriesNext : Worker → Worker → Pass → Pass → Option Install → Type 0
TriesNext old new p q None = ((max_put_off ≤ length old.put_off.items) ⊎ (p.scheduled < old.next))
    × (q ≡ p) × (new ≡ old)
TriesNext old new p q (Some result) = HasTriedNext old new p q result

-- how many writes that makes installed, and how many put off
abbrev pub installed_by : Option Install → ℕ
installed_by None = 0
installed_by (Some Installed) = 1
installed_by (Some (PutOff seen)) = 0

abbrev pub put_off_by : Option Install → ℕ
put_off_by None = 0
put_off_by (Some Installed) = 0
put_off_by (Some (PutOff seen)) = 1

-- ---- turns

-- the pass after it found this scheduled word
abbrev pub with_scheduled : Pass → ℕ → Pass
with_scheduled p x = record p { scheduled = x; looks = p.looks ++ LoadScheduled x ∷ [] }

-- the pass after it stored this progress of worker i
abbrev pub with_progress : Pass → ℕ → ℕ → Pass
with_progress p i x = record p { floors = with_number p.floors i x }

-- nothing is put off, and the next number is above this one
pub record HasNothingToTry (w : Worker) (most : ℕ) : Type 0 where
  pub none : w.put_off.items ≡ []
  pub above : most < w.next

-- the numbers that were put off were tried again, and then maybe the next one; the least that isn't
-- installed is stored as progress
pub record HasWorked (old new : Worker) (p q : Pass) (installed put_off : ℕ) : Type 0 where
  pub scheduled : ℕ
  pub busy : ¬ HasNothingToTry old scheduled
  pub retried : Pass
  pub middle : Worker
  pub retries : Retries (with_scheduled p scheduled) retried old.put_off.items middle.put_off.items
  pub same : IsSameWorker old middle
  pub same_next : middle.next ≡ old.next
  pub tried_so : Pass
  pub result : Option Install
  pub tries : TriesNext middle new retried tried_so result
  pub pass : q ≡ with_progress tried_so new.i (least_of new.put_off.items new.next)
  pub count : installed + length middle.put_off.items
      ≡ length old.put_off.items + installed_by result
  pub new_one : put_off ≡ put_off_by result

abbrev pub WorksTurn : Worker → Worker → Pass → Pass → WorkTurn → Type 0
WorksTurn old new p q Done = HasNothingToTry old (write_count p.board) × (q ≡ p) × (new ≡ old)
WorksTurn old new p q (NotYet scheduled) = HasNothingToTry old scheduled
    × (old.next ≤ write_count p.board)
    × (q ≡ with_progress (with_scheduled p scheduled) old.i old.next) × (new ≡ old)
WorksTurn old new p q (Did installed put_off) = HasWorked old new p q installed put_off

-- only worker i has worked: what other workers have installed and their floors are as they were,
-- and looks were added at the end
pub record OnlyWorks (i : ℕ) (old new : Pass) : Type 0 where
  pub rest : new ≡ record old {
    installed = new.installed;
    floors = new.floors;
    scheduled = new.scheduled;
    looks = new.looks;
  }
  pub scheduled : old.scheduled ≤ new.scheduled
  pub installed : (w : ℕ) → owner_in old w ≢ i
      → is_among w new.installed ≡ is_among w old.installed
  pub floors : (j : ℕ) → IsWorker old.board.workers j → j ≢ i → floor_of new j ≡ floor_of old j
  pub more : List Look
  pub looks : new.looks ≡ old.looks ++ more
