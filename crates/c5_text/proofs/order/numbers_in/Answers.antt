use Rattle.std.proofs.Common.{◌≡◌, ◌≤◌, ℕ, List, length, eqb, true, false, sym, subst, arith}
use Rattle.std.proofs.lemmas.Bool.{eqb-true}
use Rattle.std.proofs.lemmas.Bool.Decides.{nat_tests}
use Rattle.c5_text.proofs.Orders.{HasRead, read-more, read-all, read-none, spelled-all}
use Rattle.c5_text.proofs.order.numbers_in.Goals as goal

some-of : (rest : List ℕ) → false ≡ eqb (length rest) 0 → 1 ≤ length rest
some-of rest some = grind (arith, nat_tests)

none-of : (rest : List ℕ) → true ≡ eqb (length rest) 0 → length rest ≡ 0
none-of rest none = eqb-true (length rest) 0 (sym none)

pub returns-in_default-clause-only : goal.returns-in_default-clause-only
returns-in_default-clause-only c numbers are =
    absurd (read-none c.args.bytes.now c.loop-rest.numbers.items c.loop-rest.rest.now numbers
    c.loop-rest.invariant
    (some-of c.loop-rest.rest.now c.loop-rest-test.ensures) c.in_default.ensures.none are.small
    are.spelled)

pub loop-rest-preserved : goal.loop-rest-preserved
loop-rest-preserved c =
    let found = c.in-Some.ensures.found in
    subst (λ (numbers : List ℕ). HasRead c.args.bytes.now numbers c.in-Some.after.now)
    (sym c.in_ok-push.ensures.items)
    (read-more c.args.bytes.now c.loop-rest.numbers.items c.loop-rest.rest.now
    c.in-Some.after.now c.in-Some.number c.loop-rest.invariant found.small found.ends
    found.spelled)

pub returns-clause-only : goal.returns-clause-only
returns-clause-only c numbers are =
    read-all c.args.bytes.now c.loop-rest.numbers.items c.loop-rest.rest.now numbers
    c.loop-rest.invariant
    (none-of c.loop-rest.rest.now c.loop-rest-test.ensures) are.small are.spelled

pub returns-clause-found : goal.returns-clause-found
returns-clause-found c =
    record {
      small = c.loop-rest.invariant.small;
      spelled =
          spelled-all c.args.bytes.now c.loop-rest.numbers.items c.loop-rest.rest.now
          c.loop-rest.invariant (none-of c.loop-rest.rest.now c.loop-rest-test.ensures);
    }
