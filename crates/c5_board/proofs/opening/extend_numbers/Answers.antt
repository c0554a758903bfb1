use Rattle.std.proofs.Common.{◌≡◌, ℕ, suc, ◌+◌, ◌-◌, ◌++◌, List, [], ◌∷◌, length, arith, ap, ◌∙◌}
use Rattle.std.proofs.Common.{sym, length-append}
use Rattle.std.proofs.lemmas.List.{append-nil, append_assoc}
use Rattle.c5_rows.specs.Numbers.{numbers_from}
use Rattle.c5_board.proofs.opening.extend_numbers.Goals as goal

one_more : (xs : List ℕ) (i n m : ℕ) → n ≡ suc m
    → (xs ++ i ∷ []) ++ numbers_from (i + 1) m ≡ xs ++ numbers_from i n
one_more xs i n m e =
    let next : i + 1 ≡ suc i = omega arith in
    append_assoc xs (i ∷ []) (numbers_from (i + 1) m) ∙
    (ap (λ (j : ℕ). xs ++ (i ∷ numbers_from j m)) next ∙ ap (λ (k : ℕ). xs ++ numbers_from i k)
    (sym e))

pub loop-i-preserved : goal.loop-i-preserved
loop-i-preserved c =
    let left : c.args.count + 1 - c.loop-i.i ≡ suc (c.args.count + 1 - (c.loop-i.i + 1)) =
    omega (arith, c.loop-i-test.true) in
    let items = c.in_ok-push.ensures.items in record {
      items = ap
          (λ (xs : List ℕ). xs ++ numbers_from (c.loop-i.i + 1)
          (c.args.count + 1 - (c.loop-i.i + 1))) items
          ∙ (one_more c.loop-i.words.items c.loop-i.i (c.args.count + 1 - c.loop-i.i)
          (c.args.count + 1 - (c.loop-i.i + 1)) left ∙ c.loop-i.invariant.items);
      length = (let e = ap length items in
          let l = length-append c.loop-i.words.items (c.loop-i.i ∷ []) in
          omega (arith, c.loop-i.invariant.length));
    }

pub returns-clause-items : goal.returns-clause-items
returns-clause-items c =
    let none : c.args.count + 1 - c.loop-i.i ≡ 0 = omega (arith, c.loop-i-test.false) in
    sym (append-nil c.loop-i.words.items) ∙
    (ap (λ (n : ℕ). c.loop-i.words.items ++ numbers_from c.loop-i.i n)
    (sym none) ∙ c.loop-i.invariant.items)
