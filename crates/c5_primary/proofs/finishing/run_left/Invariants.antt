use Rattle.std.proofs.Common.{◌≡◌, ◌≤◌, ◌+◌, []}
use Rattle.c5_definitions.specs.History.{last_stamp, open_txns}
use Rattle.c5_primary.specs.Finishing.{GoesOn, AreCommittedBelow}
use Rattle.c5_primary.proofs.finishing.run_left.Given as goal

-- the bodies so far are committed, each with at most one new stamp
abbrev pub invariant-loop-script : goal.invariant-loop-script
invariant-loop-script l = record {
  goes_on : GoesOn l.initial.order l.order;
  ended : open_txns l.order.history ≡ [];
  last : last_stamp l.order.base.last l.order.history ≤ last_stamp l.initial.order.base.last
      l.initial.order.history + l.script;
  committed : AreCommittedBelow l.script l.order.history;
}
