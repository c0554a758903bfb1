use Rattle.std.proofs.Common.{◌<◌}
use Rattle.c5_script.proofs.limits.slot_of.Given as goal

abbrev pub invariant-loop-byte : goal.invariant-loop-byte
invariant-loop-byte l = l.slot < 131072
