use Rattle.std.proofs.Common.{◌<◌}
use Rattle.c5_chains.specs.Paths.{IsOnPath}
use Rattle.c5_chains.proofs.following.follow_path.Given as goal

abbrev pub invariant-loop : goal.invariant-loop
invariant-loop l =
    record {
      within : l.bucket < l.buckets;
      path : IsOnPath l.fn.pass l.pass l.name l.counter l.bucket;
    }
