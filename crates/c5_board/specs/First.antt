-- A new board's words, and its pass.
use Rattle.std.specs.Prelude.{◌+◌, ◌++◌, ℕ, true, List, [], replicate}
use Rattle.c5_rows.specs.Numbers.{numbers_from}
use Rattle.c5_board.specs.Boards.{Board, Pass}

-- all roles, nothing installed, each worker's first number as its floor
abbrev pub first_pass : Board → Pass
first_pass board = record {
  board = board;
  roles = numbers_from 1 board.workers;
  installed = [];
  snapshot = true;
  scheduler = true;
  written = 0;
  indexed = 0;
  floors = numbers_from 1 board.workers;
  place = 0;
  scheduled = 0;
  looks = [];
}

-- each worker's first number as its progress, and 0 for all others
abbrev pub first_words : ℕ → ℕ → ℕ → List ℕ
first_words writes workers buckets = replicate (writes + writes) 0 ++ numbers_from 1 workers
    ++ replicate (2 + buckets) 0
