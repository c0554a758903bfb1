use Rattle.std.proofs.Common.{◌≡◌, ◌∙◌, ℕ, List, [], length, eqb, true, false, Some, ap, refl}
use Rattle.c5_text.specs.declared.replies.ReplyHead.{ReplyHead}
use Rattle.c5_text.proofs.Heads.{after_place, session-cut, place-cut, lag-cut}
use Rattle.c5_text.proofs.replies.read_head.Goals as goal

left-of : (rest : List ℕ) → rest ≡ [] → false ≡ eqb (length rest) 0 → ⊥
left-of rest none some = let clash : false ≡ true =
    some ∙ ap (λ (r : List ℕ). eqb (length r) 0) none in cc

pub returns-in_default-number_after-clause-only : goal.returns-in_default-number_after-clause-only
returns-in_default-number_after-clause-only c head is =
    let one =
    session-cut c.args.line.now c.in-Some.rest.now c.in-Some.session head
    c.in-Some.ensures.found is in
    absurd (c.in_default-number_after.ensures.none head.place (after_place head.lag)
    (record { small = is.small_place; ends = refl; spelled = one.1 }))

pub returns-in_default-number_after-2-clause-only :
    goal.returns-in_default-number_after-2-clause-only
returns-in_default-number_after-2-clause-only c head is =
    let two =
    place-cut c.args.line.now c.in-Some.rest.now c.in-Some-number_after.rest.now
    c.in-Some.session c.in-Some-number_after.place head c.in-Some.ensures.found
    c.in-Some-number_after.ensures.found is in
    absurd (c.in_default-number_after-2.ensures.none head.lag []
    (record { small = is.small_lag; ends = refl; spelled = two.1 }))

pub returns-then-not-is_empty-clause-only : goal.returns-then-not-is_empty-clause-only
returns-then-not-is_empty-clause-only c head is =
    let three =
    lag-cut c.args.line.now c.in-Some.rest.now c.in-Some-number_after.rest.now
    c.in-Some-number_after-2.rest.now c.in-Some.session c.in-Some-number_after.place
    c.in-Some-number_after-2.lag head c.in-Some.ensures.found
    c.in-Some-number_after.ensures.found c.in-Some-number_after-2.ensures.found is in
    absurd (left-of c.in-Some-number_after-2.rest.now three.1 c.if-not-is_empty.ensures)

same-head : (head : ReplyHead) (session place lag : ℕ) → session ≡ head.session → place ≡ head.place
    → lag ≡ head.lag → Some (record { session = session; place = place; lag = lag }) ≡ Some head
same-head head session place lag one two three = rw (one, two, three) refl

pub returns-clause-only : goal.returns-clause-only
returns-clause-only c head is =
    let one =
    session-cut c.args.line.now c.in-Some.rest.now c.in-Some.session head
    c.in-Some.ensures.found is in
    let two =
    place-cut c.args.line.now c.in-Some.rest.now c.in-Some-number_after.rest.now
    c.in-Some.session c.in-Some-number_after.place head c.in-Some.ensures.found
    c.in-Some-number_after.ensures.found is in
    let three =
    lag-cut c.args.line.now c.in-Some.rest.now c.in-Some-number_after.rest.now
    c.in-Some-number_after-2.rest.now c.in-Some.session c.in-Some-number_after.place
    c.in-Some-number_after-2.lag head c.in-Some.ensures.found
    c.in-Some-number_after.ensures.found c.in-Some-number_after-2.ensures.found is in
    same-head head c.in-Some.session c.in-Some-number_after.place c.in-Some-number_after-2.lag one.0
    two.0 three.0
