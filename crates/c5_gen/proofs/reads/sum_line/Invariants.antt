use Rattle.std.proofs.Common.{◌≡◌}
use Rattle.c5_gen.proofs.Growing.{keys_from}
use Rattle.c5_gen.proofs.reads.sum_line.Given as goal

abbrev pub invariant-loop-next : goal.invariant-loop-next
invariant-loop-next l = l.keys ≡ keys_from l.first l.next
