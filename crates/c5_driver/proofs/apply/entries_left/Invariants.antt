use Rattle.std.proofs.Common.{◌≡◌, ◌++◌, drop}
use Rattle.c5_frames.specs.Index.{writes_of}
use Rattle.c5_driver.specs.LastWrites.{entries_left}
use Rattle.c5_driver.proofs.apply.entries_left.Given as goal

-- what was added, and what is left to add
abbrev pub invariant-loop-row : goal.invariant-loop-row
invariant-loop-row l = l.entries.items
    ++ entries_left (writes_of l.fn.log.txns) (drop l.row-index l.fn.rows)
    ≡ entries_left (writes_of l.fn.log.txns) l.fn.rows
