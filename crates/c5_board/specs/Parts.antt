-- What the parts of a split pass show, and what two joined passes show.
use Rattle.std.specs.Prelude.{◌==◌, ◌++◌, ℕ, max, true, false, not, ◌||◌, List, [], ◌∷◌}
use Rattle.std.specs.Prelude.{if◌then◌else◌}
use Rattle.std.specs.List.{filter}
use Rattle.c5_definitions.specs.WriteNumbers.{owner_of}
use Rattle.c5_board.specs.Sets.{without, greater_of_each}
use Rattle.c5_board.specs.Boards.{Pass}

-- those of the numbers that worker i owns, and those that others own
abbrev pub owned_by : ℕ → ℕ → List ℕ → List ℕ
owned_by workers i numbers = filter (λ w. i == owner_of workers w) numbers

abbrev pub owned_by_others : ℕ → ℕ → List ℕ → List ℕ
owned_by_others workers i numbers = filter (λ w. not (i == owner_of workers w)) numbers

-- a pass without a role, which knows what this one knows and has no looks
abbrev pub reader_part : Pass → Pass
reader_part p = record {
  board = p.board;
  roles = [];
  installed = [];
  snapshot = false;
  scheduler = false;
  written = 0;
  indexed = 0;
  floors = p.floors;
  place = p.place;
  scheduled = p.scheduled;
  looks = [];
}

-- that with the role of worker i, and what is left
abbrev pub worker_part : Pass → ℕ → Pass
worker_part p i = record (reader_part p) {
  roles = i ∷ [];
  installed = owned_by p.board.workers i p.installed;
}

abbrev pub without_worker : Pass → ℕ → Pass
without_worker p i = record p {
  roles = without i p.roles;
  installed = owned_by_others p.board.workers i p.installed;
}

-- that with the snapshot role, and what is left
abbrev pub snapshot_part : Pass → Pass
snapshot_part p = record (reader_part p) { snapshot = true }

abbrev pub without_snapshot : Pass → Pass
without_snapshot p = record p { snapshot = false }

-- that with the scheduler role, and what is left
abbrev pub scheduler_part : Pass → Pass
scheduler_part p = record (reader_part p) {
  scheduler = true;
  written = p.written;
  indexed = p.indexed;
}

abbrev pub without_scheduler : Pass → Pass
without_scheduler p = record p { scheduler = false; written = 0; indexed = 0 }

-- two passes as one
abbrev pub joined : Pass → Pass → Pass
joined a b = record {
  board = a.board;
  roles = a.roles ++ b.roles;
  installed = a.installed ++ b.installed;
  snapshot = a.snapshot || b.snapshot;
  scheduler = a.scheduler || b.scheduler;
  written = if a.scheduler then a.written else b.written;
  indexed = if a.scheduler then a.indexed else b.indexed;
  floors = greater_of_each a.floors b.floors;
  place = max a.place b.place;
  scheduled = max a.scheduled b.scheduled;
  looks = a.looks ++ b.looks;
}
