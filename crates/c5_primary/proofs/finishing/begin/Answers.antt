use Rattle.c5_primary.proofs.FinishLemmas.{begun-alone, begun-unread}
use Rattle.c5_primary.proofs.finishing.begin.Goals as goal

pub returns-in-Ok-clause-alone : goal.returns-in-Ok-clause-alone
returns-in-Ok-clause-alone c = begun-alone c.args.order.now c.begin.new.self
    (record { stamp = c.in-Ok.stamp; script = c.args.script }) c.requires.none c.in-Ok.ensures.ok
    c.know_history.ensures

pub returns-in-Ok-clause-unread : goal.returns-in-Ok-clause-unread
returns-in-Ok-clause-unread c =
    begun-unread c.args.order.now c.begin.new.self
    (record { stamp = c.in-Ok.stamp; script = c.args.script }) c.in-Ok.ensures.ok
    c.know_history.ensures
