use Rattle.std.proofs.Common.{◌≡◌, ◌∙◌, ◌++◌, ◌∷◌, [], true, subst, sym, ap, set, arith}
use Rattle.std.specs.BTreeSet.{contains}
use Rattle.std.specs.Ordering.{nat_cmp}
use Rattle.c5_definitions.specs.declared.history.Event.TheVariants as events
use Rattle.c5_order.specs.declared.book.BodyState.TheVariants.{Free}
use Rattle.c5_order.specs.Book.{base_of}
use Rattle.c5_order.proofs.Histories.{entry}
use Rattle.c5_order.proofs.Parts.{parts-of, cancel-book, stamp-open, read-parts, commit-parts}
use Rattle.c5_order.proofs.Parts.{begin-parts}
use Rattle.c5_order.proofs.ending.cancel.Goals as goal

pub push_reserved-requires : goal.push_reserved-requires
push_reserved-requires c =
    let o = c.requires.is_open in
    let was : c.remove.result ≡ true =
    c.remove.ensures.test ∙ stamp-open c.args.book.now o.0 c.args.stamp c.requires.holds o.1 o.2
    in
    let len = rw was at c.remove.ensures.len in
    omega (arith, len, c.requires.holds.room)

pub returns-clause-holds : goal.returns-clause-holds
returns-clause-holds c =
    let o = c.requires.is_open in
    let book = c.args.book.now in
    let was : c.remove.result ≡ true =
    c.remove.ensures.test ∙ stamp-open book o.0 c.args.stamp c.requires.holds o.1 o.2 in
    let len = rw was at c.remove.ensures.len in
    let q = cancel-book
    (base_of book) book.last book.history.items c.push_reserved.new.self.items book.txns.items
    (contains nat_cmp book.open_stamps)
    (contains nat_cmp c.remove.new.self) book.states.items book.versions o.0 c.txn_of-txn.result
    c.args.stamp
    (parts-of book c.requires.holds) o.1 o.2
    (c.txn_of-txn.ensures.txn o.0 o.1 o.2) c.push_reserved.ensures.items
    c.remove.ensures.updates.0 in
    record {
      allowed = q.allowed;
      last = q.last_is;
      txns = q.txns;
      opened = q.opened;
      room = omega (
        arith,
        len,
        c.requires.holds.room,
        c.push_reserved.ensures.len,
        c.push_reserved.ensures.capacity,
      );
      few = c.requires.holds.few;
      count = q.count;
      states = λ n lt. q.states n (omega (arith, q.count));
      marks = q.marks;
    }

pub returns-clause-entry : goal.returns-clause-entry
returns-clause-entry c b is_open is =
    c.push_reserved.ensures.items ∙ ap
    (λ n. c.args.book.now.history.items ++ entry n c.args.stamp events.Cancel ∷ [])
    (c.txn_of-txn.ensures.txn b is_open is).caller
