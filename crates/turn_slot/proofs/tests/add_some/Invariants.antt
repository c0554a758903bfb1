use Rattle.std.proofs.Common.{◌≡◌, ◌<◌}
use Rattle.turn_slot.specs.Passes.{numbers, IsPassOf}
use Rattle.turn_slot.proofs.tests.add_some.Given as goal

abbrev pub invariant-loop : goal.invariant-loop
invariant-loop l = IsPassOf l.slot l.pass × (numbers l.pass ≡ numbers l.initial.pass)
    × (l.added < 100)
