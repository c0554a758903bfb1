-- What draws move is a transfer between two accounts.
use Rattle.std.proofs.Common.{◌≡◌, ◌≢◌, ℕ, zero, suc, ◌+◌, ◌/◌, ◌%◌, ◌^◌, ◌<◌, ◌≤◌, [], arith}
use Rattle.std.proofs.lemmas.List.FromFn.{get_or-map-range_with_len}
use Rattle.c5_definitions.specs.Generated.{draw, Transfer, transfer_of}
use Rattle.c5_definitions.specs.Generated.{transfer_body, generated_body, generated_bodies}
use Rattle.c5_definitions.specs.SerialRun.{body_at}
use Rattle.c5_gen.proofs.Transfers.{IsTransfer}

pub draw-small : (n : ℕ) → draw n < 2 ^ 64
unfolding draw
draw-small zero = omega arith
draw-small (suc n) = omega arith

after-apart : (f s : ℕ) → f < 64 → (f + 1 + s % 63) % 64 ≢ f
after-apart f s lt e = omega arith

pub transfer-is : (x : ℕ) → x < 2 ^ 64 → IsTransfer (transfer_of x)
transfer-is x small = record {
  from = omega arith;
  to = omega arith;
  apart = after-apart (x / 2 ^ 58) (x / 2 ^ 40) (omega arith);
  amount = omega arith;
}

-- a body after the first is a transfer
pub transfer-at : (count k : ℕ) → 1 ≤ k → k < count
    → (t : Transfer) × IsTransfer t × (body_at (generated_bodies count) k ≡ transfer_body t)
transfer-at count zero some lt = absurd (omega arith)
transfer-at count (suc k) some lt = (
  transfer_of (draw (suc k)),
  transfer-is (draw (suc k)) (draw-small (suc k)),
  get_or-map-range_with_len generated_body 0 count (suc k) (suc k) [] lt (omega arith),
)
