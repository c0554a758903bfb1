use Rattle.std.proofs.Common.{◌≡◌, ◌++◌, drop}
use Rattle.std.specs.List.{flat_map}
use Rattle.c5_definitions.specs.Texts.{row_line}
use Rattle.c5_text.proofs.listing.rows_text.Given as goal

-- the lines that are written and those of the rows that are left are all of them
abbrev pub invariant-loop-entry : goal.invariant-loop-entry
invariant-loop-entry l = l.text.items ++ flat_map (row_line l.tables) (drop l.entry-index l.rows)
    ≡ flat_map (row_line l.tables) l.rows
