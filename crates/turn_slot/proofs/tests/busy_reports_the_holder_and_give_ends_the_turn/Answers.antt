use Rattle.std.proofs.Common.{sym}
use Rattle.turn_slot.proofs.Histories.{gives_same}
use Rattle.turn_slot.proofs.tests.busy_reports_the_holder_and_give_ends_the_turn.Goals as goal

pub give-both-requires-clause-history : goal.give-both-requires-clause-history
give-both-requires-clause-history g c =
    gives_same (λ e. e) _ _ _ (sym c.in-Took-try_take-2.ensures.history)
