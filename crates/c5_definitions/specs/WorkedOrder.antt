-- Two histories of an order book, worked by hand.
use Rattle.std.specs.Prelude.{ℕ, List, [], ◌∷◌, ◌++◌, pos, codes}
use Rattle.std.specs.FinMap.{empty}
use Rattle.c5_rows.specs.declared.cells.Cell.TheVariants.{Int}
use Rattle.c5_rows.specs.declared.writes.RowName.{RowName}
use Rattle.c5_rows.specs.declared.writes.Change.TheVariants.{Put}
use Rattle.c5_rows.specs.declared.writes.Write.{Write}
use Rattle.c5_definitions.specs.declared.history.Entry.{Entry}
use Rattle.c5_definitions.specs.declared.history.OrderBase.{OrderBase}
use Rattle.c5_definitions.specs.declared.history.Event.TheVariants as events
use Rattle.c5_definitions.specs.declared.script.Rel.TheVariants.{Ge}
use Rattle.c5_definitions.specs.declared.script.Statement.{Statement}
use Rattle.c5_definitions.specs.declared.script.Statement.TheVariants as statements

-- the row `x` of the first table
abbrev pub row_x : RowName
row_x = record { table = 0; key = codes "x" }

-- a put of a number into that row
abbrev pub put_x : ℕ → Statement
put_x n = statements.Put row_x (Int (pos n) ∷ [])

-- a write of it
abbrev pub write_x : ℕ → Write
write_x n = record { name = row_x; change = Put (Int (pos n) ∷ []) }

-- from no rows: body 0 puts 1 into the row, and body 1 needs it to be at least 0
abbrev pub read_base : OrderBase
read_base =
    record {
      bodies = (put_x 1 ∷ []) ∷ (statements.Need row_x 0 Ge (pos 0) ∷ []) ∷ [];
      start = empty;
      last = 0;
    }

-- stamp 1 is begun for body 0, stamp 2 for body 1, and stamp 2 reads the row
abbrev pub read_by_later : List Entry
read_by_later =
    record { caller = 1; stamp = 1; event = events.Begin 0 }
    ∷ record { caller = 2; stamp = 2; event = events.Begin 1 }
    ∷ record { caller = 2; stamp = 2; event = events.Read row_x }
    ∷ []

-- stamp 2 is cancelled
abbrev pub later_cancelled : List Entry
later_cancelled = read_by_later ++ record { caller = 2; stamp = 2; event = events.Cancel } ∷ []

-- stamp 2 declines, so that it commits no writes
abbrev pub later_committed : List Entry
later_committed = read_by_later ++ record { caller = 2; stamp = 2; event = events.Commit [] } ∷ []

-- and then stamp 1 is cancelled
abbrev pub earlier_cancelled : List Entry
earlier_cancelled = later_committed ++ record { caller = 1; stamp = 1; event = events.Cancel } ∷ []

-- from no rows: body 0 puts 1 into the row, and body 1 puts 2
abbrev pub write_base : OrderBase
write_base = record { bodies = (put_x 1 ∷ []) ∷ (put_x 2 ∷ []) ∷ []; start = empty; last = 0 }

-- stamps 1 and 2 are begun for bodies 0 and 1, and stamp 2 commits
abbrev pub later_first : List Entry
later_first =
    record { caller = 1; stamp = 1; event = events.Begin 0 }
    ∷ record { caller = 2; stamp = 2; event = events.Begin 1 }
    ∷ record { caller = 2; stamp = 2; event = events.Commit (write_x 2 ∷ []) }
    ∷ []

-- and then stamp 1 commits
abbrev pub both_committed : List Entry
both_committed =
    later_first ++ record { caller = 1; stamp = 1; event = events.Commit (write_x 1 ∷ []) } ∷ []
