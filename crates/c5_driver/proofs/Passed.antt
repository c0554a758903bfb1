-- Scripts and logs that exceed a limit, or none.
use Rattle.std.proofs.Common.{◌≡◌, ◌∙◌, ◌+◌, ◌≤◌, ◌<◌, ◌++◌, ℕ, List, [], ◌∷◌, Bool, true, false}
use Rattle.std.proofs.Common.{Option, Some, None, Ok, Err, length, map, nat_lt, refl, sym, ap}
use Rattle.std.proofs.Common.{arith, length-append}
use Rattle.std.specs.Prelude.{if◌then◌else◌, IsNone, ◌↔◌}
use Rattle.std.proofs.lemmas.Bool.{ltb-false, ltb-true}
use Rattle.std.proofs.lemmas.List.Sums.{sum_by-cons}
use borrow.Author.Tests.{lt-ltb, le-ltb}
use Rattle.c5_rows.specs.Sizes.{max_transactions, max_writes, max_rows}
use Rattle.c5_rows.specs.declared.writes.RowName.{RowName}
use Rattle.c5_rows.specs.declared.writes.Txn.{Txn}
use Rattle.c5_rows.specs.declared.writes.Write.{Write}
use Rattle.c5_definitions.specs.ScriptParts.{ScriptParts}
use Rattle.c5_definitions.specs.Limits.{write_statements, written_row_count, AreWithinLimits}
use Rattle.c5_definitions.specs.Limits.{excess_of}
use Rattle.c5_definitions.specs.declared.limits.Excess.{Excess}
use Rattle.c5_definitions.specs.declared.limits.Excess.TheVariants as excesses
use Rattle.c5_definitions.specs.WriteNumbers.{names_in}
use Rattle.c5_frames.specs.Log.{Log}
use Rattle.c5_frames.specs.Index.{writes_of}
use Rattle.c5_plan.specs.declared.plans.PlanFault.{PlanFault}
use Rattle.c5_plan.specs.declared.plans.PlanFault.TheVariants as faults
use Rattle.c5_plan.specs.Plans.{planned}
use Rattle.c5_definitions.specs.WriteNumbers.{row_count}
use Rattle.c5_plan.proofs.Sizing.{length-names_in}
use Rattle.c5_primary.specs.Serial.{IsLogWithin, total_writes, total_rows, row_names}
use Rattle.c5_driver.specs.LogLimits.{excess_of_log}

-- ---- scripts

not-first : (b : Bool) (first : Excess) (others : Option Excess)
    → (if b then Some first else others) ≡ None → b ≡ false
not-first true first others e = absurd cc
not-first false first others e = refl

not-first-others : (b : Bool) (first : Excess) (others : Option Excess)
    → (if b then Some first else others) ≡ None → others ≡ None
not-first-others true first others e = absurd cc
not-first-others false first others e = e

-- a script that exceeds no limit is within each
pub within-limits : (script : ScriptParts) → excess_of script ≡ None → AreWithinLimits script.bodies
unfolding excess_of
within-limits script e =
    let first = not-first _ _ _ e in
    let others = not-first-others _ _ _ e in
    let second = not-first _ _ _ others in
    let third = not-first _ _ _ (not-first-others _ _ _ others) in
    record {
      transactions = ltb-false 65536 (length script.bodies) first;
      writes = ltb-false 262144 (write_statements script.bodies) second;
      rows = ltb-false 65536 (written_row_count script.bodies) third;
    }

-- ---- logs

abbrev pub excess_for : PlanFault → Excess
excess_for faults.Transactions = excesses.Transactions
excess_for faults.Writes = excesses.Writes

first-passed : (b c d : Bool) (log : Log) (fault : PlanFault)
    → (if b then Err faults.Transactions else (if c then Err faults.Writes else Ok log)) ≡ Err fault
    → (if b then Some excesses.Transactions
    else (if c then Some excesses.Writes else (if d then Some excesses.Rows else None)))
    ≡ Some (excess_for fault)
first-passed true c d log faults.Transactions e = refl
first-passed true c d log faults.Writes e = absurd cc
first-passed false true d log faults.Transactions e = absurd cc
first-passed false true d log faults.Writes e = refl
first-passed false false d log fault e = absurd cc

-- why a log can't be planned is the first limit that it exceeds
pub planned-passed : (log : Log) (fault : PlanFault) → planned log ≡ Err fault
    → excess_of_log log.txns ≡ Some (excess_for fault)
unfolding excess_of_log
planned-passed log fault e = first-passed (nat_lt max_transactions (length log.txns))
    (nat_lt max_writes (length (names_in log.txns)))
    (nat_lt max_rows (row_count (names_in log.txns))) log fault e

pub none-passed : (txns : List Txn) → length txns ≤ max_transactions
    → length (names_in txns) ≤ max_writes → row_count (names_in txns) ≤ max_rows
    → excess_of_log txns ≡ None
unfolding excess_of_log
none-passed txns few short rows =
    rw (
      le-ltb max_transactions (length txns) few,
      le-ltb max_writes (length (names_in txns)) short,
      le-ltb max_rows (row_count (names_in txns)) rows,
    ) refl

pub rows-passed : (txns : List Txn) → length txns ≤ max_transactions
    → length (names_in txns) ≤ max_writes → max_rows < row_count (names_in txns)
    → excess_of_log txns ≡ Some excesses.Rows
unfolding excess_of_log
rows-passed txns few short many =
    rw (
      le-ltb max_transactions (length txns) few,
      le-ltb max_writes (length (names_in txns)) short,
      lt-ltb max_rows (row_count (names_in txns)) many,
    ) refl

-- a log that exceeds no limit has few rows
pub few-rows : (txns : List Txn) → excess_of_log txns ≡ None → row_count (names_in txns) ≤ max_rows
unfolding excess_of_log
few-rows txns e =
    let rows : Option Excess = if nat_lt max_rows (row_count (names_in txns))
    then Some excesses.Rows else None in
    let writes : Option Excess = if nat_lt max_writes (length (names_in txns))
    then Some excesses.Writes else rows in
    ltb-false max_rows (row_count (names_in txns))
    (not-first (nat_lt max_rows (row_count (names_in txns))) excesses.Rows None
    (not-first-others (nat_lt max_writes (length (names_in txns))) excesses.Writes rows
    (not-first-others (nat_lt max_transactions (length txns)) excesses.Transactions writes e)))

-- what isn't refused as too many is at most so many
pub not-too-many : {X : Type 0} (found : Option X) (x : X) (most n : ℕ)
    → (IsNone found ↔ (most < n)) → found ≡ Some x → n ≤ most
not-too-many {X} found x most n h is = by (nat_lt most n) refl
  where
    some-none : (o : Option X) → o ≡ Some x → IsNone o → n ≤ most
    some-none None e none = absurd cc
    some-none (Some y) e none = absurd cc

    by : (b : Bool) → nat_lt most n ≡ b → n ≤ most
    by true e = some-none found is (h.1 (ltb-true most n e))
    by false e = ltb-false most n e

-- ---- the log of a run

map-joined : (first others : List Write) → map (λ (w : Write). w.name) (first ++ others)
    ≡ map (λ (w : Write). w.name) first ++ map (λ (w : Write). w.name) others
map-joined [] others = refl
map-joined (w ∷ first) others = ap (λ (ns : List RowName). w.name ∷ ns) (map-joined first others)

names-run : (txns : List Txn) → names_in txns ≡ row_names txns
unfolding names_in
names-run [] = refl
names-run (txn ∷ txns) = map-joined txn.writes (writes_of txns) ∙ ap
    (λ (ns : List RowName). map (λ (w : Write). w.name) txn.writes ++ ns) (names-run txns)

-- the writes of a log are those of its transactions
pub writes-run : (txns : List Txn) → length (writes_of txns) ≡ total_writes txns
writes-run [] = refl
writes-run (txn ∷ txns) =
    let sum : total_writes (txn ∷ txns) ≡ length txn.writes + total_writes txns =
    sum_by-cons (λ (t : Txn). length t.writes) txn txns in
    length-append txn.writes (writes_of txns) ∙ ap (λ (n : ℕ). length txn.writes + n)
    (writes-run txns) ∙ sym sum

-- the log of a run of a script within the limits exceeds none
pub run-within : (script : ScriptParts) (txns : List Txn) → AreWithinLimits script.bodies
    → IsLogWithin script txns → excess_of_log txns ≡ None
run-within script txns limits log =
    let transactions = log.transactions in
    let few = limits.transactions in
    let writes = log.writes in
    let short = limits.writes in
    let rows = log.rows in
    let different = limits.rows in
    let same : row_count (names_in txns) ≡ total_rows txns = ap row_count (names-run txns) in
    none-passed txns (omega arith) (omega (arith, length-names_in txns, writes-run txns))
    (omega arith)
