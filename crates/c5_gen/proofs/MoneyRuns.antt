-- What holds of the transactions of generated bodies in the order of their numbers.
use Rattle.std.proofs.Common.{◌≡◌, ◌==◌, ℕ, zero, suc, ◌+◌, ◌-◌, ◌*◌, ◌≤◌, List, [], ◌∷◌, take}
use Rattle.std.proofs.Common.{length, get_or}
use Rattle.std.proofs.Common.{Bool, true, false, cond, leb, sum_by, count_by, refl, sym, ap, subst}
use Rattle.std.proofs.Common.{arith}
use Rattle.std.specs.List.{AllByRecursion, range_with_len}
use Rattle.std.proofs.lemmas.List.Sums.{sum_by-cons}
use Rattle.c5_rows.specs.declared.writes.Txn.{Txn}
use Rattle.c5_rows.specs.State.{State, after_writes, after_txns}
use Rattle.c5_definitions.specs.Eval.{eval}
use Rattle.c5_definitions.specs.Generated.{account_count, Transfer, transfer_body, opening_body}
use Rattle.c5_definitions.specs.Generated.{generated_bodies}
use Rattle.c5_definitions.specs.Generated.{generated_script}
use Rattle.c5_definitions.specs.Outputs.{no_rows}
use Rattle.c5_definitions.specs.SerialRun.{body_at, body_txn, serial_txns_from}
use Rattle.c5_definitions.specs.Summaries.{is_declined, generated_txns}
use Rattle.c5_gen.proofs.Drawn.{transfer-at}
use Rattle.c5_gen.proofs.Opening.{IsAccountPut, opened, opens-all}
use Rattle.c5_gen.proofs.Transfers.{IsTransfer, Holds, Moves, transfer-moves}

-- each write gives an account a balance
abbrev pub IsAccountTxn : Txn → Type 0
IsAccountTxn txn = AllByRecursion IsAccountPut txn.writes

abbrev pub write_count : List Txn → ℕ
write_count txns = sum_by (λ (txn : Txn). length txn.writes) txns

abbrev pub declined_count : List Txn → ℕ
declined_count txns = count_by is_declined txns

-- ---- transfers

-- so many transfers from a state that has all money
record Runs (state : State) (txns : List Txn) (n : ℕ) : Type 0 where
  holds : (p : ℕ) → (bs : List ℕ) × Holds (after_txns (take p txns) state) bs
  count : length txns ≡ n
  puts : AllByRecursion IsAccountTxn txns
  moves : write_count txns + 2 * declined_count txns ≡ 2 * n

none-runs : (state : State) (bs : List ℕ) → Holds state bs → Runs state [] 0
none-runs state bs holds = record {
  holds = λ p. (bs, none-taken p);
  count = refl;
  puts = tt;
  moves = refl;
}
  where
    none-taken : (p : ℕ) → Holds (after_txns (take p []) state) bs
    none-taken zero = holds
    none-taken (suc p) = holds

two-or-none : (n : ℕ) (b : Bool) → n ≡ cond b 2 0 → n + 2 * cond (n == 0) 1 0 ≡ 2
two-or-none n true e = subst (λ m. m + 2 * cond (m == 0) 1 0 ≡ 2) (sym e) refl
two-or-none n false e = subst (λ m. m + 2 * cond (m == 0) 1 0 ≡ 2) (sym e) refl

sums-more : (txn : Txn) (txns : List Txn) (n : ℕ)
    → length txn.writes + 2 * cond (is_declined txn) 1 0 ≡ 2
    → write_count txns + 2 * declined_count txns ≡ 2 * n
    → write_count (txn ∷ txns) + 2 * declined_count (txn ∷ txns) ≡ 2 * suc n
sums-more txn txns n one rest =
    omega (
      arith,
      one,
      rest,
      sum_by-cons (λ (t : Txn). length t.writes) txn txns,
      sum_by-cons (λ (t : Txn). cond (is_declined t) 1 0) txn txns,
    )

one-runs : (stamp k n : ℕ) (t : Transfer) (state : State) (bs : List ℕ) (rest : State → List Txn)
    → IsTransfer t → Holds state bs
    → ((s : State) (cs : List ℕ) → Holds s cs → Runs s (rest s) n)
    → Runs state (body_txn k stamp (transfer_body t) state
    ∷ rest (after_writes (eval (transfer_body t) state).writes state)) (suc n)
one-runs stamp k n t state bs rest is holds later =
    let moved : Moves t state bs (eval (transfer_body t) state) =
    transfer-moves t bs state is holds in
    let then : Runs (after_writes (eval (transfer_body t) state).writes state)
    (rest (after_writes (eval (transfer_body t) state).writes state)) n =
    later _ moved.later moved.holds in
    record {
      holds = λ p. taken p (bs, holds) then.holds;
      count = ap suc then.count;
      puts = (moved.puts, then.puts);
      moves = sums-more (body_txn k stamp (transfer_body t) state)
          (rest (after_writes (eval (transfer_body t) state).writes state)) n
          (two-or-none (length (eval (transfer_body t) state).writes)
          (leb t.amount (get_or bs t.from 0)) moved.count)
          then.moves;
    }
  where
    taken : (p : ℕ) → (cs : List ℕ) × Holds state cs
        → ((p : ℕ) → (cs : List ℕ)
        × Holds (after_txns
        (take p (rest (after_writes (eval (transfer_body t) state).writes state)))
        (after_writes (eval (transfer_body t) state).writes state)) cs)
        → (cs : List ℕ) × Holds (after_txns (take p (body_txn k stamp (transfer_body t) state
        ∷ rest (after_writes (eval (transfer_body t) state).writes state))) state) cs
    taken zero now then = now
    taken (suc p) now then = then p

runs : (count stamp n k : ℕ) (state : State) (bs : List ℕ) → Holds state bs → 1 ≤ k → k + n ≤ count
    → Runs state (serial_txns_from stamp (generated_bodies count) state (range_with_len k n)) n
runs count stamp zero k state bs holds some few = none-runs state bs holds
runs count stamp (suc n) k state bs holds some few =
    let at : (t : Transfer) × IsTransfer t
    × (body_at (generated_bodies count) k ≡ transfer_body t) =
    transfer-at count k some (omega arith) in
    subst (λ body. Runs state (body_txn k stamp body state ∷ serial_txns_from (stamp + 1)
    (generated_bodies count) (after_writes (eval body state).writes state)
    (range_with_len (k + 1) n))
    (suc n)) (sym at.2)
    (one-runs stamp k n at.0 state bs
    (λ s. serial_txns_from (stamp + 1) (generated_bodies count) s (range_with_len (k + 1) n))
    at.1 holds
    (λ s cs is. runs count (stamp + 1) n (k + 1) s cs is (omega arith) (omega arith)))

-- ---- the whole run

-- the opening and then transfers
pub record RunsAll (count : ℕ) (txns : List Txn) : Type 0 where
  pub holds : (p : ℕ) → 1 ≤ p → (bs : List ℕ) × Holds (after_txns (take p txns) no_rows) bs
  pub count_is : length txns ≡ count
  pub puts : AllByRecursion IsAccountTxn txns
  pub moves : write_count txns + 2 * declined_count txns ≡ account_count + 2 * (count - 1)

pub opening_txn : Txn
opening_txn = body_txn 0 1 opening_body no_rows

unfoldable pub after_opening : State
after_opening = after_writes (eval opening_body no_rows).writes no_rows

pub opening-holds : Holds after_opening opened
unfolding after_opening
opening-holds = record { shows = opens-all.leaves.shows; accounts = refl; money = refl }

some-writes : (n : ℕ) → n ≡ account_count → n + 2 * cond (n == 0) 1 0 ≡ account_count
some-writes n e = subst (λ m. m + 2 * cond (m == 0) 1 0 ≡ account_count) (sym e) refl

opens-runs : (n : ℕ) (rest : List Txn) → Runs after_opening rest n
    → RunsAll (suc n) (opening_txn ∷ rest)
unfolding opening_txn after_opening
opens-runs n rest then = record {
  holds = taken;
  count_is = ap suc then.count;
  puts = (opens-all.leaves.puts, then.puts);
  moves = omega (
    arith,
    then.moves,
    some-writes (length (eval opening_body no_rows).writes) opens-all.count,
    sum_by-cons (λ (t : Txn). length t.writes) (body_txn 0 1 opening_body no_rows) rest,
    sum_by-cons (λ (t : Txn). cond (is_declined t) 1 0) (body_txn 0 1 opening_body no_rows) rest,
  );
}
  where
    taken : (p : ℕ) → 1 ≤ p → (bs : List ℕ)
        × Holds (after_txns (take p (body_txn 0 1 opening_body no_rows ∷ rest)) no_rows) bs
    taken zero some = absurd (omega arith)
    taken (suc p) some = then.holds p

all-runs : (n : ℕ) → RunsAll (suc n)
    (opening_txn ∷ serial_txns_from 2 (generated_bodies (suc n)) after_opening (range_with_len 1 n))
all-runs n =
    opens-runs n (serial_txns_from 2 (generated_bodies (suc n)) after_opening (range_with_len 1 n))
    (runs (suc n) 2 n 1 after_opening opened opening-holds (omega arith) (omega arith))

run-of : (n : ℕ) → RunsAll (suc n) (generated_txns (suc n))
unfolding generated_txns generated_script opening_txn after_opening
run-of n = all-runs n

pub generated-runs : (count : ℕ) → 1 ≤ count → RunsAll count (generated_txns count)
generated-runs zero some = absurd (omega arith)
generated-runs (suc n) some = run-of n
