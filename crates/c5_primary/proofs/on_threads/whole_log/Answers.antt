use Rattle.std.proofs.Common.{◌≡◌, ◌∙◌, sym, subst}
use Rattle.c5_definitions.specs.OrderLog.{committed, history_log}
use Rattle.c5_definitions.specs.SerialRun.{SerialRun}
use Rattle.c5_primary.proofs.FinishLemmas.{log-of-all}
use Rattle.c5_primary.proofs.JobLemmas.{if-ok}
use Rattle.c5_primary.proofs.Shuffles.{serial-of}
use Rattle.c5_primary.proofs.on_threads.whole_log.Goals as goal

pub returns : goal.returns
returns c =
    let order = c.args.order.now in
    if-ok c.log.result (λ txns. txns.items ≡ history_log order.history)
    (λ txns. SerialRun order.base.bodies order.base.start txns.items)
    (λ txns is. subst (SerialRun order.base.bodies order.base.start)
    (sym (is ∙ log-of-all order.history c.requires.ended))
    (serial-of order.base
    (committed order.history) c.requires.first c.requires.run c.requires.committed))
    c.log.ensures
