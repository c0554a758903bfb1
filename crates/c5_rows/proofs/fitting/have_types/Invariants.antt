use Rattle.std.proofs.Common.{◌≡◌, take, map}
use Rattle.c5_rows.specs.Cells.{type_of}
use Rattle.c5_rows.proofs.fitting.have_types.Given as goal

-- the cells so far have the types
abbrev pub invariant-loop-column : goal.invariant-loop-column
invariant-loop-column l = take l.column (map type_of l.cells) ≡ take l.column l.types
