use Rattle.std.proofs.Common.{◌≡◌}
use Rattle.c5_gen.proofs.Growing.{some_puts}
use Rattle.c5_gen.proofs.bodies.opening.Given as goal

abbrev pub invariant-loop-number : goal.invariant-loop-number
invariant-loop-number l = l.body ≡ some_puts l.number
