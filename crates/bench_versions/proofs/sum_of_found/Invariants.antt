use Rattle.std.proofs.Common.{◌≤◌, ◌*◌}
use Rattle.bench_versions.proofs.sum_of_found.Given as goal

abbrev pub invariant-loop-i : goal.invariant-loop-i
invariant-loop-i l = l.sum ≤ 65536 * l.i
