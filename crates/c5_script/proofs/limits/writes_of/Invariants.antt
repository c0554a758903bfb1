use Rattle.std.proofs.Common.{◌≡◌, ◌≤◌, ◌+◌, length, drop}
use Rattle.std.specs.List.{filter_map}
use Rattle.c5_definitions.specs.Limits.{written_name}
use Rattle.c5_script.proofs.limits.writes_of.Given as goal

-- with those that are left the count is that of all, and it is at most that of the statements so
-- far
abbrev pub invariant-loop-statement : goal.invariant-loop-statement
invariant-loop-statement l =
    (l.count + length (filter_map written_name (drop l.statement-index l.statements))
    ≡ length (filter_map written_name l.statements)) × (l.count ≤ l.statement-index)
