-- What a reader of rows in memory has read from and was asked for.
use Rattle.std.specs.Prelude.{ℕ, List, map}
use Rattle.std.specs.FinMap.{get}
use Rattle.c5_rows.specs.declared.writes.RowName.{RowName}
use Rattle.c5_rows.specs.State.{State}
use Rattle.c5_definitions.specs.Follows.{Read}
use Rattle.c5_eval.specs.declared.over_rows.RowsReader.{RowsReader}

-- the rows that are read
abbrev pub rows_read : {L : Type 0} → RowsReader L → L
rows_read r = r.rows.now

-- the names that were asked for, in order
abbrev pub names_asked : {L : Type 0} → RowsReader L → List RowName
names_asked r = r.asked.items

-- how often memory ran out
abbrev pub refusals_of : {L : Type 0} → RowsReader L → ℕ
refusals_of r = r.refusals

-- each name with what the state answers to it
abbrev pub answers_to : State → List RowName → List Read
answers_to state names = map (λ name. (name, get state name)) names
