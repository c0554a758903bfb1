use Rattle.std.proofs.Common.{◌≡◌, refl, subst}
use Rattle.c5_definitions.specs.declared.history.Event.TheVariants as events
use Rattle.c5_order.specs.Answers.{after_decision, IsDecision}
use Rattle.c5_primary.specs.Finishing.{own_txn}
use Rattle.c5_primary.proofs.FinishLemmas.{one-more, alone-open, no-conflict, none-left, same-last}
use Rattle.c5_primary.proofs.FinishLemmas.{now-committed}
use Rattle.c5_primary.proofs.finishing.commit.Goals as goal

pub commit-requires : goal.commit-requires
commit-requires c = let b = own_txn c.args.opened in
    (b, alone-open c.args.order.now b c.requires.alone, refl, c.requires.outcome)

pub unreachable-requires : goal.unreachable-requires
unreachable-requires c =
    no-conflict c.args.order.now
    (own_txn c.args.opened) c.args.writes.now c.in-Conflict.row c.in-Conflict.reader
    c.requires.alone c.know_history.ensures
    (subst (IsDecision c.args.order.now.history c.args.opened.stamp c.args.writes.now)
    c.in-Conflict.is c.in-Ok.ensures.decision)

pub returns-in-Committed-clause-goes_on : goal.returns-in-Committed-clause-goes_on
returns-in-Committed-clause-goes_on c =
    let order = c.args.order.now in
    let new = c.commit.new.self in
    let b = own_txn c.args.opened in
    let is = subst
    (λ decision. new
    ≡ record order { history = after_decision b c.args.writes.now decision order.history })
    c.in-Committed.is (c.in-Ok.ensures.ok b (alone-open order b c.requires.alone) refl) in
    one-more order new
    (record {
      caller = 0;
      stamp = c.args.opened.stamp;
      event = events.Commit c.args.writes.now;
    }) is

pub returns-in-Committed-clause-last : goal.returns-in-Committed-clause-last
returns-in-Committed-clause-last c =
    let order = c.args.order.now in
    let new = c.commit.new.self in
    let b = own_txn c.args.opened in
    let is = subst
    (λ decision. new
    ≡ record order { history = after_decision b c.args.writes.now decision order.history })
    c.in-Committed.is (c.in-Ok.ensures.ok b (alone-open order b c.requires.alone) refl) in
    same-last order new b c.args.writes.now c.requires.alone is

pub returns-in-Committed-clause-ended : goal.returns-in-Committed-clause-ended
returns-in-Committed-clause-ended c =
    let order = c.args.order.now in
    let new = c.commit.new.self in
    let b = own_txn c.args.opened in
    let is = subst
    (λ decision. new
    ≡ record order { history = after_decision b c.args.writes.now decision order.history })
    c.in-Committed.is (c.in-Ok.ensures.ok b (alone-open order b c.requires.alone) refl) in
    none-left order new b c.args.writes.now c.requires.alone is

pub returns-in-Committed-clause-committed : goal.returns-in-Committed-clause-committed
returns-in-Committed-clause-committed c =
    let order = c.args.order.now in
    let new = c.commit.new.self in
    let b = own_txn c.args.opened in
    let is = subst
    (λ decision. new
    ≡ record order { history = after_decision b c.args.writes.now decision order.history })
    c.in-Committed.is (c.in-Ok.ensures.ok b (alone-open order b c.requires.alone) refl) in
    now-committed order new b c.args.writes.now c.requires.alone is
