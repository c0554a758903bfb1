use Rattle.std.proofs.Common.{◌≡◌, ◌∙◌, ◌++◌, ◌∷◌, [], ap, sym, arith}
use Rattle.std.specs.BTreeSet.{contains}
use Rattle.std.specs.Ordering.{nat_cmp}
use Rattle.c5_definitions.specs.declared.history.Event.TheVariants as events
use Rattle.c5_order.specs.Book.{base_of}
use Rattle.c5_order.proofs.Histories.{entry}
use Rattle.c5_order.proofs.BookLemmas.{sound-of}
use Rattle.c5_order.proofs.Readers.{found-version}
use Rattle.c5_order.proofs.Parts.{parts-of, read-book}
use Rattle.c5_order.proofs.SeenRows.{seen-version, seen-row, stamp-above, found-there}
use Rattle.c5_order.proofs.reading.read.Goals as goal

pub find-found-requires : goal.find-found-requires
find-found-requires c = let o = c.requires.is_open in
    stamp-above c.args.book.now o.0 c.args.stamp c.requires.holds o.1 o.2

pub row_of-requires-clause-version : goal.row_of-requires-clause-version
row_of-requires-clause-version c =
    seen-version c.args.book.now c.args.name.now c.args.stamp c.find-found.result c.requires.holds
    c.find-found.ensures

pub returns-clause-holds : goal.returns-clause-holds
returns-clause-holds c =
    let o = c.requires.is_open in
    let book = c.args.book.now in
    let seen =
    found-version
    (base_of book) book.history.items book.versions c.args.name.now c.args.stamp
    c.find-found.result
    (sound-of book c.requires.holds) c.requires.holds.marks c.find-found.ensures in
    let q = read-book
    (base_of book) book.last book.history.items c.push_reserved.new.self.items book.txns.items
    (contains nat_cmp book.open_stamps) book.states.items book.versions c.mark.new.versions o.0
    c.txn_of-txn.result c.args.stamp c.find-found.result.wrote c.args.name.now
    (parts-of book c.requires.holds) o.1 o.2 (c.txn_of-txn.ensures.txn o.0 o.1 o.2) seen
    (found-there book.versions c.args.name.now c.args.stamp c.find-found.result
    c.find-found.ensures) c.in_ok-mark.ensures.ok
    (c.push_reserved.ensures.items ∙ ap
    (λ h. h ++ entry c.txn_of-txn.result.caller c.args.stamp (events.Read c.args.name.now)
    ∷ []) c.reserve.ensures.items) in
    record {
      allowed = q.allowed;
      last = q.last_is;
      txns = q.txns;
      opened = q.opened;
      room = omega (
        arith,
        c.in_ok-reserve.ensures.ok,
        c.reserve.ensures.len,
        c.len-open.ensures.len,
        c.push_reserved.ensures.len,
        c.push_reserved.ensures.capacity,
      );
      few = c.requires.holds.few;
      count = q.count;
      states = λ n lt. q.states n (omega (arith, q.count));
      marks = q.marks;
    }

pub returns-clause-row : goal.returns-clause-row
returns-clause-row c =
    c.copied-row.ensures ∙ c.row_of.ensures ∙ seen-row c.args.book.now c.args.name.now c.args.stamp
    c.find-found.result c.requires.holds c.find-found.ensures

pub returns-clause-entry : goal.returns-clause-entry
returns-clause-entry c b is_open is =
    c.push_reserved.ensures.items ∙ ap
    (λ h. h ++ entry c.txn_of-txn.result.caller c.args.stamp (events.Read c.args.name.now)
    ∷ []) c.reserve.ensures.items
    ∙ ap (λ n. c.args.book.now.history.items
    ++ entry n c.args.stamp (events.Read c.args.name.now) ∷ [])
    (c.txn_of-txn.ensures.txn b is_open is).caller
