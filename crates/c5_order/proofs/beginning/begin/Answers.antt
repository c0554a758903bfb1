use Rattle.std.proofs.Common.{◌≡◌, inl, sym, subst, ap, ◌∙◌, get_or, Ok, arith}
use Rattle.c5_order.specs.declared.book.BodyState.TheVariants.{Free, Open, Committed}
use Rattle.c5_order.proofs.Parts.{state-at, answer-committed, answer-open, answer-last, answer-next}
use Rattle.c5_order.proofs.beginning.begin.Goals as goal

pub returns-then-book-clause-answer : goal.returns-then-book-clause-answer
returns-then-book-clause-answer c =
    let state = rw c.in-Free.is at
    (state-at c.args.book.now c.args.script c.index.result.now c.requires.holds c.requires.known
    c.index.ensures) in
    inl (answer-last c.args.book.now c.args.script c.requires.holds state c.if-book.true)

pub start-requires-clause-free : goal.start-requires-clause-free
start-requires-clause-free c = rw c.in-Free.is at
    (state-at c.args.book.now c.args.script c.index.result.now c.requires.holds c.requires.known
    c.index.ensures)

pub returns-in-Committed-clause-answer : goal.returns-in-Committed-clause-answer
returns-in-Committed-clause-answer c =
    let state = rw c.in-Committed.is at
    (state-at c.args.book.now c.args.script c.index.result.now c.requires.holds c.requires.known
    c.index.ensures) in
    inl (answer-committed c.args.book.now c.args.script c.requires.holds c.in-Committed.stamp state)

pub returns-in-Open-clause-answer : goal.returns-in-Open-clause-answer
returns-in-Open-clause-answer c =
    let state = rw c.in-Open.is at
    (state-at c.args.book.now c.args.script c.index.result.now c.requires.holds c.requires.known
    c.index.ensures) in
    inl (answer-open c.args.book.now c.args.script c.requires.holds c.in-Open.stamp state)

pub returns-in_ok-start-in-Free-clause-answer : goal.returns-in_ok-start-in-Free-clause-answer
returns-in_ok-start-in-Free-clause-answer c =
    let state = rw c.in-Free.is at
    (state-at c.args.book.now c.args.script c.index.result.now c.requires.holds c.requires.known
    c.index.ensures) in
    inl (ap Ok c.in_ok-start-in-Free.ensures.stamp ∙ answer-next c.args.book.now c.args.script
    c.requires.holds state c.if-book.false)
