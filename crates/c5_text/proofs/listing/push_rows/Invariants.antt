use Rattle.std.proofs.Common.{◌≡◌, ◌++◌, map}
use Rattle.std.specs.List.{flat_map}
use Rattle.c5_rows.specs.Held.{rows_held}
use Rattle.c5_rows.specs.State.{entry_of, rows_of}
use Rattle.c5_definitions.specs.Texts.{row_line}
use Rattle.c5_text.proofs.listing.push_rows.Given as goal

-- the lines that are written and those of the rows that are left are all of them
abbrev pub invariant-loop-name : goal.invariant-loop-name
invariant-loop-name l = l.out.items ++ flat_map (row_line l.tables)
    (map entry_of (rows_held (λ block. block.value) l.name-iterator))
    ≡ l.fn.out.items ++ flat_map (row_line l.tables) (rows_of l.rows)
