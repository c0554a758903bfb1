-- What steps, splits and joins make of a view.
use Rattle.std.specs.Prelude.{◌==◌, ◌++◌, ℕ, max, Bool, true, false, ◌||◌, [], ◌∷◌, if◌then◌else◌}
use Rattle.c5_definitions.specs.WriteNumbers.{end_of}
use Rattle.c5_frames.specs.Log.{Log}
use Rattle.c5_board.specs.declared.known.Known.{Known}
use Rattle.c5_board.specs.declared.known.Look.{Look}
use Rattle.c5_board.specs.Sets.{without, with_number, greater_of_each}
use Rattle.c5_rows.specs.Numbers.{numbers_from}
use Rattle.c5_board.specs.Parts.{owned_by, owned_by_others}

-- the first view: all roles, and nothing is done
abbrev pub first_view : Log → ℕ → Known
first_view log workers = record {
  log = log;
  workers = workers;
  roles = numbers_from 1 workers;
  installed = [];
  snapshot = true;
  scheduler = true;
  written = 0;
  indexed = 0;
  floors = numbers_from 1 workers;
  place = 0;
  scheduled = 0;
  looks = [];
}

-- the view that is left of a joined pass: it holds no role, and knows nothing
abbrev pub spent_view : Log → ℕ → Known
spent_view log workers = record {
  log = log;
  workers = workers;
  roles = [];
  installed = [];
  snapshot = false;
  scheduler = false;
  written = 0;
  indexed = 0;
  floors = numbers_from 1 workers;
  place = 0;
  scheduled = 0;
  looks = [];
}

-- what the second part of a split takes: the role of a worker, if it isn't 0, the snapshot role,
-- the scheduler role
pub record Taken : Type 0 where
  pub worker : ℕ
  pub snapshot : Bool
  pub scheduler : Bool

-- the second part
abbrev pub part_view : Taken → Known → Known
part_view taken v = record {
  log = v.log;
  workers = v.workers;
  roles = if taken.worker == 0 then [] else taken.worker ∷ [];
  installed = if taken.worker == 0 then [] else owned_by v.workers taken.worker v.installed;
  snapshot = taken.snapshot;
  scheduler = taken.scheduler;
  written = if taken.scheduler then v.written else 0;
  indexed = if taken.scheduler then v.indexed else 0;
  floors = v.floors;
  place = v.place;
  scheduled = v.scheduled;
  looks = [];
}

-- the first part
abbrev pub rest_view : Taken → Known → Known
rest_view taken v = record {
  log = v.log;
  workers = v.workers;
  roles = if taken.worker == 0 then v.roles else without taken.worker v.roles;
  installed = if taken.worker == 0 then v.installed
      else owned_by_others v.workers taken.worker v.installed;
  snapshot = if taken.snapshot then false else v.snapshot;
  scheduler = if taken.scheduler then false else v.scheduler;
  written = if taken.scheduler then 0 else v.written;
  indexed = if taken.scheduler then 0 else v.indexed;
  floors = v.floors;
  place = v.place;
  scheduled = v.scheduled;
  looks = v.looks;
}

abbrev pub joined_view : Known → Known → Known
joined_view v w = record {
  log = v.log;
  workers = v.workers;
  roles = v.roles ++ w.roles;
  installed = v.installed ++ w.installed;
  snapshot = v.snapshot || w.snapshot;
  scheduler = v.scheduler || w.scheduler;
  written = if v.scheduler then v.written else w.written;
  indexed = if v.scheduler then v.indexed else w.indexed;
  floors = greater_of_each v.floors w.floors;
  place = max v.place w.place;
  scheduled = max v.scheduled w.scheduled;
  looks = v.looks ++ w.looks;
}

-- ---- steps

-- a look is added, and what is scheduled has reached n
abbrev pub looked : Known → ℕ → Look → Known
looked v n look = record v { scheduled = max v.scheduled n; looks = v.looks ++ look ∷ [] }

-- w was installed
abbrev pub with_installed : Known → ℕ → Look → Known
with_installed v w look = record v { installed = w ∷ v.installed; looks = v.looks ++ look ∷ [] }

-- a look is added, and nothing else
abbrev pub with_look : Known → Look → Known
with_look v look = record v { looks = v.looks ++ look ∷ [] }

-- the progress of worker i is x
abbrev pub with_floor : Known → ℕ → ℕ → Known
with_floor v i x = record v { floors = with_number v.floors i x }

-- the visible place is p
abbrev pub with_place : Known → ℕ → Known
with_place v p = record v { place = p; scheduled = max v.scheduled (end_of v.log.txns p) }
