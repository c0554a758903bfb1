use Rattle.std.proofs.Common.{arith}
use Rattle.c5_order.proofs.BookLemmas.{place-is, open-ends, open-begins, txns-more}
use Rattle.c5_order.proofs.ending.place_of.Goals as goal

pub overflow_sub-result : goal.overflow_sub-result
overflow_sub-result c = let p =
    place-is c.args.book.now c.args.stamp c.requires.holds c.requires.is_open in omega (arith, p.1)

pub overflow_sub-result-2 : goal.overflow_sub-result-2
overflow_sub-result-2 c = let p =
    place-is c.args.book.now c.args.stamp c.requires.holds c.requires.is_open in omega (arith, p.1)

pub returns-clause-place : goal.returns-clause-place
returns-clause-place c = let p =
    place-is c.args.book.now c.args.stamp c.requires.holds c.requires.is_open in omega (arith, p.1)

pub returns-clause-bound : goal.returns-clause-bound
returns-clause-bound c = let p =
    place-is c.args.book.now c.args.stamp c.requires.holds c.requires.is_open in
    omega (arith, p.1, p.2)
