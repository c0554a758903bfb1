use Rattle.std.proofs.Common.{◌≡◌, ℕ, ◌-◌, ◌*◌, ◌^◌, ◌<◌, ◌≤◌}
use Rattle.c5_board.proofs.opening.bucket_count.Given as goal

abbrev pub invariant-loop-buckets : goal.invariant-loop-buckets
invariant-loop-buckets l = record {
  power : (k : ℕ) × (l.buckets ≡ 2 ^ k) × (1 ≤ k)
      × ((j : ℕ) → 1 ≤ j → j < k → 2 ^ j < 2 * l.writes);
  two : 2 ≤ l.buckets;
  few : l.buckets ≤ 1048576;
}

abbrev pub decreases-loop-buckets : goal.decreases-loop-buckets
decreases-loop-buckets l = 2 * l.writes - l.buckets
