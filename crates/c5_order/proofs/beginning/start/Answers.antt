use Rattle.std.proofs.Common.{◌∙◌, ◌++◌, ◌∷◌, [], ◌+◌, None, ap, arith}
use Rattle.std.specs.BTreeSet.{contains}
use Rattle.std.specs.Ordering.{nat_cmp}
use Rattle.c5_definitions.specs.declared.history.Event.TheVariants as events
use Rattle.c5_order.specs.Book.{base_of}
use Rattle.c5_order.proofs.Histories.{entry}
use Rattle.c5_order.proofs.Parts.{parts-of, begin-book, one-at-most}
use Rattle.c5_order.proofs.beginning.start.Goals as goal

pub returns-clause-holds : goal.returns-clause-holds
returns-clause-holds c =
    let book = c.args.book.now in
    let q = begin-book
    (base_of book) book.last book.history.items c.push_reserved-2.new.self.items book.txns.items
    c.push_reserved.new.self.items (contains nat_cmp book.open_stamps)
    (contains nat_cmp c.insert.new.self) book.states.items book.versions c.args.caller
    c.args.script
    (parts-of book c.requires.holds) c.requires.known c.requires.free c.requires.room
    c.in_ok-insert.ensures.updates.0
    (c.push_reserved-2.ensures.items ∙ ap
    (λ h. h ++ entry c.args.caller (book.last + 1) (events.Begin c.args.script)
    ∷ []) c.reserve.ensures.items)
    (c.push_reserved.ensures.items ∙ ap
    (λ ts. ts ++ record { caller = c.args.caller; script = c.args.script; place = None }
    ∷ []) c.reserve-2.ensures.items) in
    record {
      allowed = q.allowed;
      last = q.last_is;
      txns = q.txns;
      opened = q.opened;
      room = omega (
        arith,
        c.in_ok-insert.ensures.len,
        one-at-most c.in_ok-insert.field-0,
        c.in_ok-reserve.ensures.ok,
        c.reserve.ensures.len,
        c.len-open.ensures.len,
        c.push_reserved-2.ensures.len,
        c.push_reserved-2.ensures.capacity,
      );
      few = c.requires.holds.few;
      count = q.count;
      states = λ n lt. q.states n (omega (arith, q.count));
      marks = q.marks;
    }
