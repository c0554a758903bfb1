use Rattle.std.proofs.Common.{arith, refl}
use Rattle.c5_order.specs.declared.book.Book.{Book}
use Rattle.c5_order.proofs.NewBook.{new-parts}
use Rattle.c5_order.proofs.order.empty_book.Goals as goal

pub returns-clause-holds : goal.returns-clause-holds
returns-clause-holds c =
    let book : Book =
    record {
      alloc = c.args.alloc;
      bodies = c.args.bodies;
      start = c.args.start;
      first = c.args.last;
      last = c.args.last;
      history = c.new.result;
      txns =
          c.new-2.result;
      open_stamps = c.new-3.result;
      states = c.in_ok-states.states;
      versions =
          c.new-4.result;
    } in
    let q = new-parts book c.new.ensures.items c.new-2.ensures.items c.new-3.ensures.empty
    c.new-4.ensures.empty refl c.in_ok-states.ensures in
    record {
      allowed = q.allowed;
      last = q.last_is;
      txns = q.txns;
      opened = q.opened;
      room = omega (arith, c.new-3.ensures.len, c.new.ensures.len);
      few = c.requires;
      count = q.count;
      states = λ n lt. q.states n (omega (arith, q.count));
      marks = q.marks;
    }
