use Rattle.std.proofs.Common.{◌≡◌, ◌∙◌, ap, subst, take}
use Rattle.std.specs.Prelude.{IfOk}
use Rattle.c5_definitions.specs.OrderLog.{history_log}
use Rattle.c5_order.specs.Book.{logged}
use Rattle.c5_order.proofs.LogLemmas.{log-is}
use Rattle.c5_order.proofs.logging.log.Goals as goal

pub returns : goal.returns
returns c =
    subst (λ list. IfOk c.logged.result (λ txns. txns.items ≡ list))
    (ap (λ h. logged h (take c.count_closed.result c.deref-2.result.now)) c.deref.ensures.value
    ∙ ap (λ ts. logged c.args.book.now.history.items (take c.count_closed.result ts))
    c.deref-2.ensures.value
    ∙ log-is c.args.book.now c.count_closed.result c.requires c.count_closed.ensures.closed)
    c.logged.ensures
