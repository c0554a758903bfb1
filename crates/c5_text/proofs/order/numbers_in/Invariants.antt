use Rattle.std.proofs.Common.{length}
use Rattle.c5_text.proofs.Orders.{HasRead}
use Rattle.c5_text.proofs.order.numbers_in.Given as goal

abbrev pub invariant-loop-rest : goal.invariant-loop-rest
invariant-loop-rest l = HasRead l.bytes l.numbers.items l.rest

-- each number has a byte
abbrev pub decreases-loop-rest : goal.decreases-loop-rest
decreases-loop-rest l = length l.rest
