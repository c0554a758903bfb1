-- The parts of a split, by what the second part takes.
use Rattle.std.specs.Prelude.{◌≡◌, ◌≢◌, ◌==◌, true, false, [], ◌∷◌, if◌then◌else◌}
use Rattle.c5_board.specs.Sets.{without}
use Rattle.c5_rows.specs.Numbers.{is_among}
use Rattle.c5_board.specs.Boards.{Pass}
use Rattle.c5_board.specs.Parts.{owned_by, owned_by_others, reader_part}
use Rattle.c5_board.specs.Views.{Taken}

-- the pass holds what is taken
pub record Holds (p : Pass) (taken : Taken) : Type 0 where
  pub worker : taken.worker ≢ 0 → is_among taken.worker p.roles ≡ true
  pub snapshot : taken.snapshot ≡ true → p.snapshot ≡ true
  pub scheduler : taken.scheduler ≡ true → p.scheduler ≡ true

abbrev pub part_of : Taken → Pass → Pass
part_of taken p = record (reader_part p) {
  roles = if taken.worker == 0 then [] else taken.worker ∷ [];
  installed = if taken.worker == 0 then [] else owned_by p.board.workers taken.worker p.installed;
  snapshot = taken.snapshot;
  scheduler = taken.scheduler;
  written = if taken.scheduler then p.written else 0;
  indexed = if taken.scheduler then p.indexed else 0;
}

abbrev pub rest_of : Taken → Pass → Pass
rest_of taken p = record p {
  roles = if taken.worker == 0 then p.roles else without taken.worker p.roles;
  installed = if taken.worker == 0 then p.installed
      else owned_by_others p.board.workers taken.worker p.installed;
  snapshot = if taken.snapshot then false else p.snapshot;
  scheduler = if taken.scheduler then false else p.scheduler;
  written = if taken.scheduler then 0 else p.written;
  indexed = if taken.scheduler then 0 else p.indexed;
}
