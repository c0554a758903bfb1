use Rattle.std.proofs.Common.{◌≡◌, ◌++◌, drop}
use Rattle.std.specs.List.{flat_map}
use Rattle.c5_definitions.specs.Spelling.{spelled_table}
use Rattle.c5_frames.proofs.encoding.push_header.Given as goal

-- what is written and the tables that are left make the whole
abbrev pub invariant-loop-table : goal.invariant-loop-table
invariant-loop-table l = l.out.items ++ flat_map spelled_table (drop l.table-index l.tables)
    ≡ l.initial.out.items ++ flat_map spelled_table l.tables
