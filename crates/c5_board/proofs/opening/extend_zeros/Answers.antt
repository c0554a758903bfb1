use Rattle.std.proofs.Common.{◌≡◌, ℕ, ◌+◌, ◌-◌, ◌++◌, ◌≤◌, List, length, replicate, arith, ap, ◌∙◌}
use Rattle.std.proofs.lemmas.List.{take_all}
use Rattle.c5_board.proofs.opening.extend_zeros.Goals as goal

pub returns-clause-items : goal.returns-clause-items
returns-clause-items c =
    let all : length c.args.words.now.items ≤ c.len-len.result + c.args.count =
    omega (arith, c.args.words.now.ok.0) in
    let left : c.len-len.result + c.args.count - c.args.words.now.len ≡ c.args.count =
    omega (arith, c.args.words.now.ok.0) in
    c.in_ok-resize.ensures.items
    ∙ (ap (λ (xs : List ℕ). xs ++ replicate
    (c.len-len.result + c.args.count - c.args.words.now.len) 0)
    (take_all (c.len-len.result + c.args.count) c.args.words.now.items all)
    ∙ ap (λ (n : ℕ). c.args.words.now.items ++ replicate n 0) left)
