use Rattle.std.proofs.Common.{◌++◌, ◌∙◌, ap, sym}
use Rattle.std.proofs.lemmas.List.{append-nil}
use Rattle.c5_order.specs.Book.{committed_at_entry}
use Rattle.c5_order.proofs.LogLemmas.{slice-past}
use Rattle.c5_order.proofs.logging.push_commit.Goals as goal

pub returns-in-None : goal.returns-in-None
returns-in-None c = sym (append-nil c.args.txns.now.items) ∙ ap
    (λ e. c.args.txns.now.items ++ committed_at_entry e c.args.script)
    (slice-past c.args.history.now c.args.place c.in-None.ensures.lookup.3)
