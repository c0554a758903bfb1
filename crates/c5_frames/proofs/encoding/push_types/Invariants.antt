use Rattle.std.proofs.Common.{◌≡◌, ◌++◌, drop, map}
use Rattle.c5_definitions.specs.Spelling.{spelled_type}
use Rattle.c5_frames.proofs.encoding.push_types.Given as goal

-- what is written and the types that are left make the whole
abbrev pub invariant-loop-cell_type : goal.invariant-loop-cell_type
invariant-loop-cell_type l = l.out.items ++ map spelled_type (drop l.cell_type-index l.types)
    ≡ l.initial.out.items ++ map spelled_type l.types
