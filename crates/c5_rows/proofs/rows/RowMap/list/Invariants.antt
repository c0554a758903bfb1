use Rattle.std.proofs.Common.{◌≡◌, ◌++◌, map}
use Rattle.c5_rows.specs.State.{entry_of, rows_of}
use Rattle.c5_rows.specs.Held.{rows_held}
use Rattle.c5_rows.proofs.rows.RowMap.list.Given as goal

-- the entries so far and those that are left are all of them
abbrev pub invariant-loop-name : goal.invariant-loop-name
invariant-loop-name g l = l.list.items
    ++ map entry_of (rows_held g.H.HeldRow.row_held l.name-iterator) ≡ rows_of l.self
