use Rattle.std.proofs.Common.{◌≡◌, ◌+◌, ◌*◌, ◌∙◌, ap, drop, arith}
use Rattle.std.specs.Cmp.Lexicographic.{slice_cmp}
use Rattle.std.specs.Ordering.{nat_cmp}
use Rattle.c5_rows.proofs.ByteOrder.{words_differ, words_same}
use Rattle.c5_rows.proofs.byte_order.order.Goals as goal

pub returns-then-x-y : goal.returns-then-x-y
returns-then-x-y c =
    let a = c.args.a.now in
    let b = c.args.b.now in
    let same = c.requires in
    c.cmp.ensures
    ∙ words_differ (8 * c.loop-place.place) c.word-x.result c.word-y.result a b
    (omega (arith, c.loop-place-test.true))
    (omega (arith, c.loop-place-test.true, same)) c.type_inv.a c.type_inv.b
    c.word-x.ensures c.word-y.ensures c.loop-place.invariant c.if-x-y.true
    (nat_cmp c.args.a_len c.args.b_len)

pub loop-place-preserved : goal.loop-place-preserved
loop-place-preserved c =
    let a = c.args.a.now in
    let b = c.args.b.now in
    let same = c.requires in
    let place = c.loop-place.place in
    let next : 8 * place + 8 ≡ 8 * (place + 1) = omega arith in
    words_same (8 * place) c.word-x.result c.word-y.result a b
    (omega (arith, c.loop-place-test.true))
    (omega (arith, c.loop-place-test.true, same)) c.type_inv.a c.type_inv.b
    c.word-x.ensures c.word-y.ensures c.loop-place.invariant c.if-x-y.false
    ∙ ap (λ at. slice_cmp nat_cmp (drop at a) (drop at b)) next
