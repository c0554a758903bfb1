-- The counts of the first two generated runs.
use Rattle.std.proofs.Common.{◌≡◌, ◌==◌, ℕ, ◌+◌, List, [], ◌∷◌, length, cond, refl, ap, ap₂, ◌∙◌}
use Rattle.std.proofs.Common.{arith}
use Rattle.c5_rows.specs.State.{after_writes}
use Rattle.c5_definitions.specs.Eval.{eval}
use Rattle.c5_definitions.specs.Generated.{draw, transfer_body, opening_body, generated_bodies}
use Rattle.c5_definitions.specs.Generated.{generated_script}
use Rattle.c5_definitions.specs.Outputs.{no_rows}
use Rattle.c5_definitions.specs.SerialRun.{body_at, body_txn}
use Rattle.c5_definitions.specs.Summaries.{generated_txns, summary_at}
use Rattle.c5_definitions.specs.WorkedGenerated.{first_transfer}
use Rattle.c5_gen.proofs.Counts.{bytes-are}
use Rattle.c5_gen.proofs.MoneyRuns.{RunsAll, generated-runs, declined_count, after_opening}
use Rattle.c5_gen.proofs.MoneyRuns.{opening-holds}
use Rattle.c5_gen.proofs.Opening.{opened, opens-all}
use Rattle.c5_gen.proofs.Transfers.{IsTransfer, transfer-moves}

second-is : body_at (generated_bodies 2) 1 ≡ transfer_body first_transfer
unfolding draw
second-is = refl

first-is : IsTransfer first_transfer
first-is = record {
  from = omega arith;
  to = omega arith;
  apart = λ e. omega arith;
  amount = omega arith;
}

two-writes : length (eval (transfer_body first_transfer)
    (after_writes (eval opening_body no_rows).writes no_rows)).writes ≡ 2
unfolding after_opening
two-writes = (transfer-moves first_transfer opened after_opening first-is opening-holds).count

-- 1 for no writes
abbrev declined_by : ℕ → ℕ
declined_by n = cond (n == 0) 1 0

one-declined : declined_count (generated_txns 1) ≡ 0
unfolding generated_txns generated_script
one-declined = ap (λ n. 0 + declined_by n) opens-all.count

two-declined : declined_count (generated_txns 2) ≡ 0
unfolding generated_txns generated_script after_opening
two-declined =
    ap (λ body. declined_count (body_txn 0 1 opening_body no_rows
    ∷ body_txn 1 2 body (after_writes (eval opening_body no_rows).writes no_rows) ∷ [])) second-is
    ∙ ap₂ (λ n m. 0 + declined_by n + declined_by m) opens-all.count two-writes

pub one-bytes : (places : List ℕ) → (summary_at 1 places).bytes ≡ 1258
one-bytes places =
    let runs : RunsAll 1 (generated_txns 1) = generated-runs 1 (omega arith) in
    omega (arith, bytes-are 1 places (omega arith), runs.moves, runs.count_is, one-declined)

pub two-written : (places : List ℕ) → (summary_at 2 places).writes ≡ 66
two-written places =
    let runs : RunsAll 2 (generated_txns 2) = generated-runs 2 (omega arith) in
    omega (arith, runs.moves, two-declined)

pub two-bytes : (places : List ℕ) → (summary_at 2 places).bytes ≡ 1317
two-bytes places =
    let runs : RunsAll 2 (generated_txns 2) = generated-runs 2 (omega arith) in
    omega (arith, bytes-are 2 places (omega arith), two-written places, runs.count_is)

pub two-declined-none : (places : List ℕ) → (summary_at 2 places).declined ≡ 0
two-declined-none places = two-declined
