use Rattle.std.proofs.Common.{◌≡◌, ◌<◌, subst, sym}
use Rattle.std.specs.Prelude.{length}
use Rattle.c5_order.proofs.Histories.{open-begun}
use Rattle.c5_order.proofs.BookLemmas.{txn-noted, script-known}
use Rattle.c5_order.proofs.ending.txn_of.Goals as goal

pub returns-clause-txn : goal.returns-clause-txn
returns-clause-txn c b is_open is =
    txn-noted c.args.book.now b c.args.stamp c.place_of.result c.index.result.now c.requires.holds
    is_open is c.place_of.ensures.place c.index.ensures

pub returns-clause-script : goal.returns-clause-script
returns-clause-script c =
    let o = c.requires.is_open in
    let t = txn-noted c.args.book.now o.0 c.args.stamp c.place_of.result c.index.result.now
    c.requires.holds o.1 o.2 c.place_of.ensures.place c.index.ensures in
    subst (λ n. n < length c.args.book.now.bodies.now) (sym t.script)
    (script-known c.args.book.now o.0 c.requires.holds
    (open-begun c.args.book.now.history.items o.0 o.1).0)
