use Rattle.std.proofs.Common.{◌∙◌, sym}
use Rattle.c5_order.specs.Book.{base_of}
use Rattle.c5_order.specs.declared.book.BodyState.TheVariants.{Free, Open, Committed}
use Rattle.c5_order.proofs.BookLemmas.{sound-of}
use Rattle.c5_order.proofs.Answering.{state-committed-is}
use Rattle.c5_order.proofs.Parts.{state-at}
use Rattle.c5_order.proofs.logging.committed.Goals as goal

pub returns-in-Committed : goal.returns-in-Committed
returns-in-Committed c =
    let state = rw c.in-Committed.is at
    (state-at c.args.book.now c.args.script c.index.result.now c.requires.holds c.requires.known
    c.index.ensures) in
    sym (state-committed-is (base_of c.args.book.now) c.args.book.now.history.items
    (sound-of c.args.book.now c.requires.holds) c.args.script
    (Committed c.in-Committed.stamp) state)

pub returns-in-Open : goal.returns-in-Open
returns-in-Open c =
    let state = rw c.in-Open.is at
    (state-at c.args.book.now c.args.script c.index.result.now c.requires.holds c.requires.known
    c.index.ensures) in
    sym (state-committed-is (base_of c.args.book.now) c.args.book.now.history.items
    (sound-of c.args.book.now c.requires.holds) c.args.script (Open c.in-Open.field-0) state)

pub returns-in-Free : goal.returns-in-Free
returns-in-Free c =
    let state = rw c.in-Free.is at
    (state-at c.args.book.now c.args.script c.index.result.now c.requires.holds c.requires.known
    c.index.ensures) in
    sym (state-committed-is (base_of c.args.book.now) c.args.book.now.history.items
    (sound-of c.args.book.now c.requires.holds) c.args.script Free state)
