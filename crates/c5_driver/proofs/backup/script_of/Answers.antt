use Rattle.std.proofs.Common.{◌∙◌, ℕ, List, Ok, ap, sym, arith}
use Rattle.c5_driver.proofs.Fronts.{front-end}
use Rattle.c5_driver.proofs.backup.script_of.Goals as goal

pub overflow_sub-result : goal.overflow_sub-result
overflow_sub-result c =
    let front = c.in-Ok.front in
    let end = front-end c.args.bytes.now front.rest.now front.script c.in-Ok.ensures in
    let short = end.short in
    omega arith

pub returns-in-Ok-clause-read : goal.returns-in-Ok-clause-read
returns-in-Ok-clause-read c =
    let front = c.in-Ok.front in
    let end = front-end c.args.bytes.now front.rest.now front.script c.in-Ok.ensures in
    c.in-Ok.ensures ∙ ap (λ (rest : List ℕ). Ok (front.script, rest)) (sym end.is)
