use Rattle.std.proofs.Common.{arith, ◌∙◌}
use Rattle.c5_order.proofs.BookLemmas.{last-count}
use Rattle.c5_order.proofs.logging.count_begun.Goals as goal

pub returns-clause-last : goal.returns-clause-last
returns-clause-last c =
    let book = c.args.book.now in
    let count = c.len.ensures ∙ book.txns.ok.0 in
    omega (arith, last-count book c.requires, count)
