use Rattle.std.proofs.Common.{◌≡◌, ◌+◌, drop}
use Rattle.c5_text.specs.Reading.{bytes_before}
use Rattle.c5_text.proofs.reading.count_before.Given as goal

-- no byte up to here is the one that is sought
abbrev pub invariant-loop-count : goal.invariant-loop-count
invariant-loop-count l = l.count + bytes_before l.stop (drop l.count l.bytes)
    ≡ bytes_before l.stop l.bytes
