use Rattle.std.proofs.Common.{◌≡◌, ◌∙◌, ◌++◌, ◌∷◌, [], None, Some, set, eqb, true, ap, sym, subst}
use Rattle.std.proofs.Common.{arith}
use Rattle.std.specs.Map.{lookup}
use Rattle.c5_definitions.specs.History.{begun, commits}
use Rattle.std.specs.List.{AllZip}
use Rattle.c5_order.specs.Marks.{noted_mark, mark_after_install}
use Rattle.std.specs.BTreeSet.{contains}
use Rattle.std.specs.Ordering.{nat_cmp}
use Rattle.c5_definitions.specs.declared.history.Event.TheVariants as events
use Rattle.c5_order.specs.Book.{HoldsTxn, base_of}
use Rattle.c5_order.proofs.Histories.{entry, open-begun, uncommitted}
use Rattle.c5_order.proofs.Readers.{none-written}
use Rattle.c5_order.proofs.Parts.{parts-of, commit-book, stamp-open}
use Rattle.c5_order.proofs.SeenRows.{stamp-above}
use Rattle.c5_order.proofs.committing.install_all.Goals as goal

pub install-requires : goal.install-requires
install-requires c name =
    let o = c.requires.outcome in
    let book = c.args.book.now in
    none-written book.history.items book.versions c.args.stamp name
    (stamp-above book o.0 c.args.stamp c.requires.holds o.1 o.2)
    (subst (λ s. lookup (λ n. eqb n s) (commits book.history.items) ≡ None) o.2
    (uncommitted book.history.items o.0.stamp (open-begun book.history.items o.0 o.1).1))
    c.requires.holds.marks

pub push_reserved-requires : goal.push_reserved-requires
push_reserved-requires c =
    let o = c.requires.outcome in
    let was : c.remove.result ≡ true =
    c.remove.ensures.test ∙ stamp-open c.args.book.now o.0 c.args.stamp c.requires.holds o.1 o.2
    in
    let len = rw was at c.remove.ensures.len in
    omega (arith, len, c.requires.holds.room)

pub returns-clause-holds : goal.returns-clause-holds
returns-clause-holds c =
    let o = c.requires.outcome in
    let book = c.args.book.now in
    let was : c.remove.result ≡ true =
    c.remove.ensures.test ∙ stamp-open book o.0 c.args.stamp c.requires.holds o.1 o.2 in
    let len = rw was at c.remove.ensures.len in
    let q = commit-book
    (base_of book) book.last book.history.items c.push_reserved.new.self.items book.txns.items
    (contains nat_cmp book.open_stamps)
    (contains nat_cmp c.remove.new.self) book.states.items book.versions c.install.new.versions
    o.0 c.txn_of-txn.result c.args.stamp c.place_of-place.result c.args.writes.now
    c.in_ok-copy.copy
    (parts-of book c.requires.holds) o.1 o.2
    (c.txn_of-txn.ensures.txn o.0 o.1 o.2) c.place_of-place.ensures.place o.3
    c.as_slice.ensures.ascending c.requires.free c.in_ok-copy.ensures c.remove.ensures.updates.0
    (λ q. c.in_ok-install.ensures.ok q ∙ ap
    (λ ws. mark_after_install c.args.stamp ws q (noted_mark book.versions q))
    c.as_slice.ensures.value) c.push_reserved.ensures.items in
    record {
      allowed = q.allowed;
      last = q.last_is;
      txns = subst
          (λ n. AllZip (HoldsTxn c.push_reserved.new.self.items)
          (begun c.push_reserved.new.self.items)
          (set book.txns.items c.place_of-place.result
          (record {
            caller = c.txn_of-txn.result.caller;
            script = c.txn_of-txn.result.script;
            place = Some n;
          }))) (sym book.history.ok.0 ∙ sym c.len.ensures) q.txns;
      opened = q.opened;
      room = omega (
        arith,
        len,
        c.requires.holds.room,
        c.push_reserved.ensures.len,
        c.push_reserved.ensures.capacity,
      );
      few = c.requires.holds.few;
      count = q.count;
      states = λ n lt. q.states n (omega (arith, q.count));
      marks = q.marks;
    }

pub returns-clause-entry : goal.returns-clause-entry
returns-clause-entry c b is_open is =
    c.push_reserved.ensures.items ∙ ap
    (λ n. c.args.book.now.history.items
    ++ entry n c.args.stamp (events.Commit c.in_ok-copy.copy) ∷ [])
    (c.txn_of-txn.ensures.txn b is_open is).caller
    ∙ ap (λ w. c.args.book.now.history.items
    ++ entry b.caller c.args.stamp (events.Commit w) ∷ []) c.in_ok-copy.ensures
