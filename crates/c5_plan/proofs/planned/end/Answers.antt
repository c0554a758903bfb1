use Rattle.std.proofs.Common.{◌≡◌, ◌∙◌, sym, ap, arith}
use Rattle.c5_definitions.specs.WriteNumbers.{end_of}
use Rattle.c5_plan.proofs.Ends.{end_of-zero, end_of-entry}
use Rattle.c5_plan.proofs.planned.end.Goals as goal

pub returns-then-p-eq0 : goal.returns-then-p-eq0
returns-then-p-eq0 c = let e : c.args.p ≡ 0 = omega arith in
    sym (ap (end_of c.args.log.now.txns) e ∙ end_of-zero c.args.log.now.txns)

pub returns : goal.returns
returns c = end_of-entry c.args.log.now.txns c.args.p c.txn-last.result
    (omega arith) c.txn-last.ensures.entry
