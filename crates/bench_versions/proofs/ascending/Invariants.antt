use Rattle.std.proofs.Common.{◌<◌, All}
use Rattle.bench_versions.proofs.ascending.Given as goal

-- the stamps so far are below the next one
abbrev pub invariant-loop-stamp : goal.invariant-loop-stamp
invariant-loop-stamp l = All (λ v. v.wrote < l.stamp) l.versions.versions
