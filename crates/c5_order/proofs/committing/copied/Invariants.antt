use Rattle.std.proofs.Common.{◌≡◌, take}
use Rattle.c5_order.proofs.committing.copied.Given as goal

abbrev pub invariant-loop-write : goal.invariant-loop-write
invariant-loop-write l = l.copy ≡ take l.write-index l.list
