-- Which board it is, and what a pass of it shows.
use Rattle.std.specs.Prelude.{◌≤◌, ℕ, Bool, List, length}
use Rattle.atomic_table.specs.Seated.{TableId}
use Rattle.c5_rows.specs.declared.writes.RowName.{RowName}
use Rattle.c5_definitions.specs.WriteNumbers.{names_in, row_of, predecessor_of}
use Rattle.c5_frames.specs.Log.{Log}
use Rattle.c5_board.specs.declared.known.Known.{Known}
use Rattle.c5_board.specs.declared.known.Look.{Look}
use Rattle.c5_board.specs.declared.known.Record.{Record}

-- a board: its table, its log, and its number of workers
pub record Board : Type 0 where
  pub table : TableId
  pub log : Log
  pub workers : ℕ

-- a pass: the board that it is of, its roles and their installed numbers, and what it knows
pub record Pass : Type 0 where
  pub board : Board
  pub roles : List ℕ
  pub installed : List ℕ
  pub snapshot : Bool
  pub scheduler : Bool
  pub written : ℕ
  pub indexed : ℕ
  pub floors : List ℕ
  pub place : ℕ
  pub scheduled : ℕ
  pub looks : List Look

-- the names of the board's writes
abbrev pub names : Board → List RowName
names board = names_in board.log.txns

-- the number of the board's writes
abbrev pub write_count : Board → ℕ
write_count board = length (names board)

-- the record of write w
abbrev pub record_of : List RowName → ℕ → Record
record_of names w = record { row = row_of names w; predecessor = predecessor_of names w }

-- i is the number of a worker
abbrev pub IsWorker : ℕ → ℕ → Type 0
IsWorker workers i = (1 ≤ i) × (i ≤ workers)

-- what a pass with this view shows
abbrev pub pass_of : TableId → Known → Pass
pass_of table v = record {
  board = record { table = table; log = v.log; workers = v.workers };
  roles = v.roles;
  installed = v.installed;
  snapshot = v.snapshot;
  scheduler = v.scheduler;
  written = v.written;
  indexed = v.indexed;
  floors = v.floors;
  place = v.place;
  scheduled = v.scheduled;
  looks = v.looks;
}
