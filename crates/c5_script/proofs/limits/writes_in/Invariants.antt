use Rattle.std.proofs.Common.{◌≡◌, ◌≤◌, ◌+◌, ◌*◌, drop}
use Rattle.c5_definitions.specs.Limits.{write_statements}
use Rattle.c5_script.proofs.limits.writes_in.Given as goal

-- with those of the bodies that are left the count is that of all, and no body adds more than 256
abbrev pub invariant-loop-body : goal.invariant-loop-body
invariant-loop-body l =
    (l.count + write_statements (drop l.body-index l.bodies) ≡ write_statements l.bodies)
    × (l.count ≤ 256 * l.body-index)
