use Rattle.std.proofs.Common.{sym}
use Rattle.turn_slot.proofs.Histories.{gives_same}
use Rattle.c5_definitions.specs.declared.history.Entry.{Entry}
use Rattle.c5_order.proofs.tests.a_slot_keeps_the_book.Goals as goal

pub give-second-requires-clause-history : goal.give-second-requires-clause-history
give-second-requires-clause-history g c =
    gives_same (λ (e : Entry). e.caller) _ _ _ (sym c.in-Took-try_take.ensures.history)
