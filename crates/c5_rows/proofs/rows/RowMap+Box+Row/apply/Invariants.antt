use Rattle.std.proofs.Common.{◌≡◌, take}
use Rattle.c5_rows.specs.State.{after_writes}
use Rattle.c5_rows.proofs.rows.RowMap+Box+Row.apply.Given as goal

-- what the writes so far have left
abbrev pub invariant-loop-applied : goal.invariant-loop-applied
invariant-loop-applied l = (l.write-items ≡ l.txn.writes)
    × (l.self ≡ after_writes (take l.applied l.txn.writes) l.fn.self)
