use Rattle.std.proofs.Common.{sym, subst}
use Rattle.std.specs.List.{All}
use Rattle.c5_order.specs.Answers.{IsDecision}
use Rattle.c5_order.specs.Marks.{IsUnread, IsFirstRead}
use Rattle.c5_order.proofs.Conflicts.{no-conflict, first-conflict}
use Rattle.c5_order.proofs.SeenRows.{stamp-above}
use Rattle.c5_order.proofs.committing.commit.Goals as goal

pub find_reader-requires : goal.find_reader-requires
find_reader-requires c = let o = c.requires.outcome in
    stamp-above c.args.book.now o.0 c.args.stamp c.requires.holds o.1 o.2

pub install_all-requires-clause-free : goal.install_all-requires-clause-free
install_all-requires-clause-free c =
    no-conflict c.args.book.now c.requires.holds c.args.stamp c.args.writes.now
    (subst (All (IsUnread c.args.book.now.versions c.args.stamp)) c.as_slice.ensures.value
    c.in-None.ensures)

pub returns-in-Some-clause-decision : goal.returns-in-Some-clause-decision
returns-in-Some-clause-decision c =
    subst (IsDecision c.args.book.now.history.items c.args.stamp c.args.writes.now)
    (sym c.conflict.ensures)
    (first-conflict c.args.book.now c.requires.holds c.args.stamp c.args.writes.now c.in-Some.later
    c.as_slice.ensures.ascending
    (subst (λ ws. IsFirstRead c.args.book.now.versions c.args.stamp ws c.in-Some.later)
    c.as_slice.ensures.value c.in-Some.ensures))

pub returns-in_ok-install_all-in-None-clause-decision :
    goal.returns-in_ok-install_all-in-None-clause-decision
returns-in_ok-install_all-in-None-clause-decision c =
    no-conflict c.args.book.now c.requires.holds c.args.stamp c.args.writes.now
    (subst (All (IsUnread c.args.book.now.versions c.args.stamp)) c.as_slice.ensures.value
    c.in-None.ensures)
