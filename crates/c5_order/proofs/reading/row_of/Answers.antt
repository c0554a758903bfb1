use Rattle.std.proofs.Common.{◌≡◌, ◌∙◌, ◌-◌, sym, ap, subst, get_or, arith}
use Rattle.std.specs.List.{slice_get}
use Rattle.c5_order.specs.declared.book.TxnState.{TxnState}
use Rattle.c5_order.specs.Book.{HoldsPlace, left_at}
use Rattle.c5_order.proofs.SeenRows.{version-place, row-start, row-at, row-nowhere}
use Rattle.c5_order.proofs.reading.row_of.Goals as goal

pub returns-then-version-eq0 : goal.returns-then-version-eq0
returns-then-version-eq0 c = c.get.ensures ∙ sym
    (row-start c.args.book.now.start c.args.book.now.history.items c.args.name.now c.args.version
    c.if-version-eq0.true)

pub overflow_sub-version : goal.overflow_sub-version
overflow_sub-version c = let p =
    version-place c.args.book.now c.args.version c.requires.holds c.requires.version
    c.if-version-eq0.false in omega (arith, p.is)

pub overflow_sub-version-2 : goal.overflow_sub-version-2
overflow_sub-version-2 c = let p =
    version-place c.args.book.now c.args.version c.requires.holds c.requires.version
    c.if-version-eq0.false in omega (arith, p.is)

pub index-requires : goal.index-requires
index-requires c = let p =
    version-place c.args.book.now c.args.version c.requires.holds c.requires.version
    c.if-version-eq0.false in omega (arith, p.is, p.bound)

pub returns-in-Some : goal.returns-in-Some
returns-in-Some c =
    let p = version-place c.args.book.now c.args.version c.requires.holds c.requires.version
    c.if-version-eq0.false in
    let same : c.args.version - c.args.book.now.first - 1 ≡ p.place = omega (arith, p.is) in
    let at : c.index.result.now ≡ get_or c.args.book.now.txns.items p.place c.index.result.now =
    c.index.ensures ∙ ap (λ k. get_or c.args.book.now.txns.items k c.index.result.now) same in
    let holds = subst (HoldsPlace c.args.book.now.history.items c.args.version) c.in-Some.is
    (p.holds c.index.result.now at) in
    c.left_at.ensures ∙ ap
    (λ h. left_at (slice_get h c.in-Some.place) c.args.name.now) c.deref.ensures.value
    ∙ row-at c.args.book.now.start c.args.book.now.history.items c.args.name.now c.args.version
    c.in-Some.place c.if-version-eq0.false holds

pub returns-in-None : goal.returns-in-None
returns-in-None c =
    let p = version-place c.args.book.now c.args.version c.requires.holds c.requires.version
    c.if-version-eq0.false in
    let same : c.args.version - c.args.book.now.first - 1 ≡ p.place = omega (arith, p.is) in
    let at : c.index.result.now ≡ get_or c.args.book.now.txns.items p.place c.index.result.now =
    c.index.ensures ∙ ap (λ k. get_or c.args.book.now.txns.items k c.index.result.now) same in
    row-nowhere c.args.book.now.start c.args.book.now.history.items c.args.name.now c.args.version
    c.if-version-eq0.false
    (subst (HoldsPlace c.args.book.now.history.items c.args.version) c.in-None.is
    (p.holds c.index.result.now at))
