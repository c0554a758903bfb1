use Rattle.std.proofs.Common.{◌≡◌, ◌+◌, ◌-◌, ◌≤◌, vec_len, take}
use Rattle.std.specs.Io.KnownBytes.{Consumes}
use Rattle.c5_io.proofs.whole.read_all.Given as goal

abbrev pub invariant-loop-filled : goal.invariant-loop-filled
invariant-loop-filled g l = record {
  within : l.filled ≤ vec_len l.bytes;
  short : vec_len l.bytes ≤ l.limit + 1;
  taken : Consumes (g.S.Source.left l.initial.source) (g.S.Source.left l.source)
      (take l.filled l.bytes.items);
  faults : g.S.Source.faults l.source ≡ g.S.Source.faults l.initial.source;
}

abbrev pub decreases-loop-filled : goal.decreases-loop-filled
decreases-loop-filled g l = l.limit + 1 - l.filled
