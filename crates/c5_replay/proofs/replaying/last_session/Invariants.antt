use Rattle.std.proofs.Common.{◌≤◌, ℕ, drop}
use Rattle.c5_rows.specs.Sizes.{max_sessions}
use Rattle.c5_replay.specs.Parts.{HaveSessionsUpTo}
use Rattle.c5_replay.proofs.replaying.last_session.Given as goal

-- a bound of the reads that are left is one of all reads, if it isn't below the greatest so far
abbrev pub invariant-loop-read : goal.invariant-loop-read
invariant-loop-read l = record {
  few : l.last ≤ max_sessions;
  all : (bound : ℕ) → l.last ≤ bound → HaveSessionsUpTo bound (drop l.read-index l.reads)
      → HaveSessionsUpTo bound l.reads;
}
