use Rattle.std.proofs.Common.{◌≡◌, length, take, drop}
use Rattle.c5_definitions.specs.Items.{types_of_bytes}
use Rattle.c5_frames.proofs.Types.{with_types}
use Rattle.c5_frames.proofs.header.columns_in.Given as goal

-- the types so far and those that are still read are those of the bytes
abbrev pub invariant-loop-column : goal.invariant-loop-column
invariant-loop-column l = (length l.types ≡ 8)
    × (with_types (take l.column l.types) (types_of_bytes (drop l.column l.item))
    ≡ types_of_bytes l.item)
