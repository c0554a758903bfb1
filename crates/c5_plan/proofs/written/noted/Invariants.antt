use Rattle.std.proofs.Common.{◌≤◌, length, take}
use Rattle.c5_definitions.specs.WriteNumbers.{names_in}
use Rattle.c5_plan.specs.Noted.{Notes}
use Rattle.c5_plan.proofs.written.noted.Given as goal

abbrev pub invariant-loop-before : goal.invariant-loop-before
invariant-loop-before l =
    record {
      notes : Notes l.rows.entries (take l.before (names_in l.log.txns));
      within : length l.rows.entries ≤ l.most;
    }
