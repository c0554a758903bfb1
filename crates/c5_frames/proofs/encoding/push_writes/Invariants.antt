use Rattle.std.proofs.Common.{◌≡◌, ◌++◌, drop}
use Rattle.std.specs.List.{flat_map}
use Rattle.c5_definitions.specs.Spelling.{spelled_frame, write_payload}
use Rattle.c5_frames.proofs.encoding.push_writes.Given as goal

-- what is written and the writes that are left make the whole
abbrev pub invariant-loop-write : goal.invariant-loop-write
invariant-loop-write l =
    l.out.items ++ flat_map (λ write. spelled_frame (write_payload write))
    (drop l.write-index l.writes)
    ≡ l.initial.out.items ++ flat_map (λ write. spelled_frame (write_payload write)) l.writes
