use Rattle.std.proofs.Common.{◌≡◌, rules, ap, subst, length, arith}
use Rattle.c5_primary.specs.declared.state.HeldBase.{HeldBase}
use Rattle.c5_primary.specs.Finishing.{own_txn, GoesOn, IsAlone}
use Rattle.c5_primary.proofs.FinishLemmas.{held-still}
use Rattle.c5_primary.proofs.finishing.writes_of.Goals as goal

pub returns-in-Ok-clause-goes_on : goal.returns-in-Ok-clause-goes_on
returns-in-Ok-clause-goes_on c =
    let order = c.args.order.now in
    let rows = c.evaluate.new.rows in
    let name = ap (λ (x : HeldBase). x.reference) c.evaluate.ensures.base in
    let long : c.entries-before.result ≡ length order.history =
    omega (arith, c.entries-before.ensures, c.know_size.ensures.entries) in
    let still =
    held-still _ rows.order.ghost_name rows.before c.entries-before.result order rows.order.now
    rows.stamp (own_txn c.args.opened) c.requires.alone long c.evaluate.ensures.base in
    subst (λ order. GoesOn c.args.order.now order) (search (rules, name)) still.goes_on

pub returns-in-Ok-clause-alone : goal.returns-in-Ok-clause-alone
returns-in-Ok-clause-alone c =
    let order = c.args.order.now in
    let rows = c.evaluate.new.rows in
    let name = ap (λ (x : HeldBase). x.reference) c.evaluate.ensures.base in
    let long : c.entries-before.result ≡ length order.history =
    omega (arith, c.entries-before.ensures, c.know_size.ensures.entries) in
    let still =
    held-still _ rows.order.ghost_name rows.before c.entries-before.result order rows.order.now
    rows.stamp (own_txn c.args.opened) c.requires.alone long c.evaluate.ensures.base in
    subst (λ order. IsAlone order (own_txn c.args.opened)) (search (rules, name)) still.alone

pub returns-in-Err-Read-clause-goes_on : goal.returns-in-Err-Read-clause-goes_on
returns-in-Err-Read-clause-goes_on c =
    let order = c.args.order.now in
    let rows = c.evaluate.new.rows in
    let name = ap (λ (x : HeldBase). x.reference) c.evaluate.ensures.base in
    let long : c.entries-before.result ≡ length order.history =
    omega (arith, c.entries-before.ensures, c.know_size.ensures.entries) in
    let still =
    held-still _ rows.order.ghost_name rows.before c.entries-before.result order rows.order.now
    rows.stamp (own_txn c.args.opened) c.requires.alone long c.evaluate.ensures.base in
    subst (λ order. GoesOn c.args.order.now order) (search (rules, name)) still.goes_on

pub returns-in-Err-Read-clause-alone : goal.returns-in-Err-Read-clause-alone
returns-in-Err-Read-clause-alone c =
    let order = c.args.order.now in
    let rows = c.evaluate.new.rows in
    let name = ap (λ (x : HeldBase). x.reference) c.evaluate.ensures.base in
    let long : c.entries-before.result ≡ length order.history =
    omega (arith, c.entries-before.ensures, c.know_size.ensures.entries) in
    let still =
    held-still _ rows.order.ghost_name rows.before c.entries-before.result order rows.order.now
    rows.stamp (own_txn c.args.opened) c.requires.alone long c.evaluate.ensures.base in
    subst (λ order. IsAlone order (own_txn c.args.opened)) (search (rules, name)) still.alone

pub returns-in-Err-NoMemory-clause-goes_on : goal.returns-in-Err-NoMemory-clause-goes_on
returns-in-Err-NoMemory-clause-goes_on c =
    let order = c.args.order.now in
    let rows = c.evaluate.new.rows in
    let name = ap (λ (x : HeldBase). x.reference) c.evaluate.ensures.base in
    let long : c.entries-before.result ≡ length order.history =
    omega (arith, c.entries-before.ensures, c.know_size.ensures.entries) in
    let still =
    held-still _ rows.order.ghost_name rows.before c.entries-before.result order rows.order.now
    rows.stamp (own_txn c.args.opened) c.requires.alone long c.evaluate.ensures.base in
    subst (λ order. GoesOn c.args.order.now order) (search (rules, name)) still.goes_on

pub returns-in-Err-NoMemory-clause-alone : goal.returns-in-Err-NoMemory-clause-alone
returns-in-Err-NoMemory-clause-alone c =
    let order = c.args.order.now in
    let rows = c.evaluate.new.rows in
    let name = ap (λ (x : HeldBase). x.reference) c.evaluate.ensures.base in
    let long : c.entries-before.result ≡ length order.history =
    omega (arith, c.entries-before.ensures, c.know_size.ensures.entries) in
    let still =
    held-still _ rows.order.ghost_name rows.before c.entries-before.result order rows.order.now
    rows.stamp (own_txn c.args.opened) c.requires.alone long c.evaluate.ensures.base in
    subst (λ order. IsAlone order (own_txn c.args.opened)) (search (rules, name)) still.alone
