-- Every serial run of a script within its limits is a lawful log within them.
use Rattle.std.proofs.Common.{◌≡◌, ◌≤◌, ◌<◌, ◌+◌, ◌^◌, ◌∙◌, ℕ, zero, suc, Option, Some, None, List}
use Rattle.std.proofs.Common.{[], ◌∷◌, ◌++◌, length, map, drop, refl, ap, sym, subst, arith}
use Rattle.std.specs.List.{AllByRecursion, range_with_len, sum_by, filter_map, cons_option}
use Rattle.std.proofs.lemmas.List.{length-map}
use Rattle.std.proofs.lemmas.List.Concat.{length-flat_map}
use Rattle.std.proofs.lemmas.List.FromFn.{length-range_with_len}
use Rattle.std.proofs.lemmas.List.Sorted.{length_permutation, sum_by-IsPermutation}
use Rattle.std.proofs.ByRecursion.{all_shuffled}
use Rattle.std.proofs.lemmas.List.Sums.{sum_by-cons}
use Rattle.c5_rows.specs.State.{State, after_writes}
use Rattle.c5_rows.specs.Writes.{IsAscending}
use Rattle.c5_rows.specs.declared.tables.TableDef.{TableDef}
use Rattle.c5_rows.specs.declared.writes.RowName.{RowName}
use Rattle.c5_rows.specs.declared.writes.Write.{Write}
use Rattle.c5_rows.specs.declared.writes.Txn.{Txn}
use Rattle.c5_definitions.specs.declared.script.Statement.{Statement}
use Rattle.c5_definitions.specs.Eval.{eval}
use Rattle.c5_definitions.specs.FitsScript.{BodyFits, IsBody, IsScript}
use Rattle.c5_definitions.specs.FitsState.{StateFits}
use Rattle.c5_definitions.specs.Lawful.{IsLawfulLog, IsLawfulTxn, IsLawfulWrite}
use Rattle.c5_definitions.specs.Limits.{written_name, written_names, write_statements}
use Rattle.c5_definitions.specs.ScriptParts.{ScriptParts}
use Rattle.c5_definitions.specs.SerialRun.{body_at, body_txn, serial_txns_from, serial_txns}
use Rattle.c5_definitions.specs.SerialRun.{script_numbers, AreAlike, SerialRun}
use Rattle.c5_primary.specs.Serial.{total_writes, row_names, EveryRunIsWithin}
use Rattle.c5_primary.proofs.EvalFits.{StateFits-after_writes, eval-lawful}
use Rattle.c5_primary.proofs.EvalCounts.{eval-count}
use Rattle.c5_primary.proofs.EvalNames.{eval-names}
use Rattle.c5_primary.proofs.EvalOrder.{eval-ascending}
use Rattle.c5_primary.proofs.DistinctNames.{IsOneOf, all_weaker, all_append, in_first, in_others}
use Rattle.c5_primary.proofs.DistinctNames.{each_one, fewer_names}
use Rattle.c5_primary.proofs.InOrderLaws.{at_drop}
use Rattle.c5_primary.proofs.LogLength.{log-short}

-- ---- bodies by number

-- what holds of every body, and of none, holds of the body of any number
body_is : (P : List Statement → Type 0) → P [] → (bodies : List (List Statement)) (n : ℕ)
    → AllByRecursion P bodies → P (body_at bodies n)
body_is P none [] n all = none
body_is P none (body ∷ bodies) zero all = all.0
body_is P none (body ∷ bodies) (suc n) all = body_is P none bodies n all.1

-- how many of a body's statements write
abbrev writing : List Statement → ℕ
writing body = length (filter_map written_name body)

writing-short : (body : List Statement) → writing body ≤ length body
writing-short [] = omega arith
writing-short (statement ∷ statements) = by (written_name statement) (writing-short statements)
  where
    by : (written : Option RowName) → writing statements ≤ length statements
        → length (cons_option written (filter_map written_name statements)) ≤ length
        (statement ∷ statements)
    by None le = omega arith
    by (Some name) le = omega arith

below : (n from len : ℕ) → from + len ≤ n → AllByRecursion (λ k. k < n) (range_with_len from len)
below n from zero le = tt
below n from (suc len) le = (omega arith, below n (from + 1) len (omega arith))

-- the bodies of all numbers, one after the other, are the bodies
sum-numbers : (f : List Statement → ℕ) (all rest : List (List Statement)) (n : ℕ)
    → drop n all ≡ rest → sum_by (λ k. f (body_at all k)) (range_with_len n (length rest))
    ≡ sum_by f rest
sum-numbers f all [] n e = refl
sum-numbers f all (body ∷ rest) n e =
    let here = at_drop all n body rest [] e in
    let next : n + 1 ≡ suc n = omega arith in
    let later : drop (n + 1) all ≡ rest = ap (λ (k : ℕ). drop k all) next ∙ here.1 in
    sum_by-cons (λ k. f (body_at all k)) n (range_with_len (n + 1) (length rest))
    ∙ ap (λ (k : ℕ). f (body_at all n) + k) (sum-numbers f all rest (n + 1) later)
    ∙ ap (λ (b : List Statement). f b + sum_by f rest) here.0
    ∙ sym (sum_by-cons f body rest)

-- ---- a run of the bodies of any numbers

run-lawful : (tables : List TableDef) (bodies : List (List Statement)) (stamp : ℕ) (rows : State)
    (numbers : List ℕ) → AllByRecursion (λ k. k < 65536) numbers → AllByRecursion IsBody bodies
    → AllByRecursion (BodyFits tables) bodies → StateFits tables rows
    → AllByRecursion (IsLawfulTxn tables) (serial_txns_from stamp bodies rows numbers)
run-lawful tables bodies stamp rows [] few are fit all = tt
run-lawful tables bodies stamp rows (number ∷ numbers) few are fit all =
    let body = body_at bodies number in
    let is : IsBody body = body_is IsBody
    (record { few = omega arith; each = tt }) bodies number are in
    let fits : BodyFits tables body = body_is (BodyFits tables) tt bodies number fit in
    let lawful = eval-lawful tables body rows fits is.each all in
    let count = eval-count body rows in
    let short = writing-short body in
    let most = is.few in
    let first = few.0 in (
      record {
        script = omega arith;
        count = omega arith;
        ascending = eval-ascending body rows;
        writes = lawful;
      },
      run-lawful tables bodies (stamp + 1)
          (after_writes (eval body rows).writes rows) numbers few.1 are fit
          (StateFits-after_writes tables (eval body rows).writes rows lawful all),
    )

run-writes : (bodies : List (List Statement)) (stamp : ℕ) (rows : State) (numbers : List ℕ)
    → total_writes (serial_txns_from stamp bodies rows numbers) ≤ sum_by
    (λ k. writing (body_at bodies k)) numbers
run-writes bodies stamp rows [] = omega arith
run-writes bodies stamp rows (number ∷ numbers) =
    let body = body_at bodies number in
    let others = serial_txns_from (stamp + 1) bodies
    (after_writes (eval body rows).writes rows) numbers in
    let count = eval-count body rows in
    let rest = run-writes bodies (stamp + 1) (after_writes (eval body rows).writes rows) numbers in
    let a = sum_by-cons (λ (txn : Txn). length txn.writes)
    (body_txn number stamp body rows) others in
    let b = sum_by-cons (λ (k : ℕ). writing (body_at bodies k)) number numbers in
    omega arith

run-names : (P : RowName → Type 0) (bodies : List (List Statement)) (stamp : ℕ) (rows : State)
    (numbers : List ℕ) → ((n : ℕ) → AllByRecursion P (filter_map written_name (body_at bodies n)))
    → AllByRecursion P (row_names (serial_txns_from stamp bodies rows numbers))
run-names P bodies stamp rows [] each = tt
run-names P bodies stamp rows (number ∷ numbers) each =
    let body = body_at bodies number in
    let others = serial_txns_from (stamp + 1) bodies
    (after_writes (eval body rows).writes rows) numbers in
    all_append P (map (λ write. write.name) (eval body rows).writes) (row_names others)
    (eval-names P body rows (each number))
    (run-names P bodies (stamp + 1) (after_writes (eval body rows).writes rows) numbers each)

-- the names in one body are among those in all
body-names : (bodies : List (List Statement)) (n : ℕ)
    → AllByRecursion (IsOneOf (written_names bodies)) (filter_map written_name (body_at bodies n))
body-names [] n = tt
body-names (body ∷ bodies) zero =
    let these = filter_map written_name body in
    all_weaker (IsOneOf these) (IsOneOf (these ++ written_names bodies))
    (λ q is. in_first these (written_names bodies) q is) these (each_one these)
body-names (body ∷ bodies) (suc n) =
    let these = filter_map written_name body in
    all_weaker (IsOneOf (written_names bodies)) (IsOneOf (these ++ written_names bodies))
    (λ q is. in_others these (written_names bodies) q is)
    (filter_map written_name (body_at bodies n)) (body-names bodies n)

-- ---- transactions that differ in their stamps alone

alike-lawful : (tables : List TableDef) (these those : List Txn) → AreAlike these those
    → AllByRecursion (IsLawfulTxn tables) those → AllByRecursion (IsLawfulTxn tables) these
alike-lawful tables [] [] alike all = tt
alike-lawful tables [] (that ∷ those) alike all = absurd alike
alike-lawful tables (this ∷ these) [] alike all = absurd alike
alike-lawful tables (this ∷ these) (that ∷ those) alike all =
    let same_writes = sym alike.0.1 in (
      record {
        script = subst (λ (n : ℕ). n < 2 ^ 32) (sym alike.0.0) all.0.script;
        count = subst (λ (ws : List Write). length ws < 2 ^ 32) same_writes all.0.count;
        ascending = subst IsAscending same_writes all.0.ascending;
        writes = subst (AllByRecursion (IsLawfulWrite tables)) same_writes all.0.writes;
      },
      alike-lawful tables these those alike.1 all.1,
    )

alike-names : (these those : List Txn) → AreAlike these those → row_names these ≡ row_names those
alike-names [] [] alike = refl
alike-names [] (that ∷ those) alike = absurd alike
alike-names (this ∷ these) [] alike = absurd alike
alike-names (this ∷ these) (that ∷ those) alike =
    ap (λ (ws : List Write). map (λ write. write.name) ws ++ row_names these) alike.0.1
    ∙ ap (λ (names : List RowName). map (λ write. write.name) that.writes ++ names)
    (alike-names these those alike.1)

alike-writes : (these those : List Txn) → AreAlike these those
    → total_writes these ≡ total_writes those
alike-writes [] [] alike = refl
alike-writes [] (that ∷ those) alike = absurd alike
alike-writes (this ∷ these) [] alike = absurd alike
alike-writes (this ∷ these) (that ∷ those) alike =
    let a = sum_by-cons (λ (txn : Txn). length txn.writes) this these in
    let b = sum_by-cons (λ (txn : Txn). length txn.writes) that those in
    let first = ap length alike.0.1 in
    let others = alike-writes these those alike.1 in
    omega arith

-- ---- serial runs

run-count : (bodies : List (List Statement)) (rows : State) (txns : List Txn)
    → SerialRun bodies rows txns → length txns ≡ length bodies
run-count bodies rows txns serial =
    let a = length_permutation (range_with_len 0 (length bodies))
    (script_numbers txns) serial.each_once in
    let b = length-map txns (λ (txn : Txn). txn.script) in
    let c = length-range_with_len 0 (length bodies) in
    omega arith

numbers-below : (bodies : List (List Statement)) (rows : State) (txns : List Txn)
    → SerialRun bodies rows txns → length bodies ≤ 65536
    → AllByRecursion (λ k. k < 65536) (script_numbers txns)
numbers-below bodies rows txns serial few =
    all_shuffled (λ (k : ℕ). k < 65536) (range_with_len 0 (length bodies))
    (script_numbers txns) serial.each_once (below 65536 0 (length bodies) (omega arith))

count-writes : (bodies : List (List Statement)) (rows : State) (txns : List Txn)
    → SerialRun bodies rows txns → total_writes txns ≤ write_statements bodies
count-writes bodies rows txns serial =
    let numbers = script_numbers txns in
    let f : ℕ → ℕ = λ k. writing (body_at bodies k) in
    let alike = alike-writes txns (serial_txns bodies rows numbers) serial.alike in
    let most = run-writes bodies 1 rows numbers in
    let shuffled = sum_by-IsPermutation f
    (range_with_len 0 (length bodies)) numbers serial.each_once in
    let all = sum-numbers writing bodies bodies 0 refl in
    let flat = length-flat_map (filter_map written_name) bodies in
    omega arith

count-rows : (bodies : List (List Statement)) (rows : State) (txns : List Txn)
    → SerialRun bodies rows txns → AllByRecursion (IsOneOf (written_names bodies)) (row_names txns)
count-rows bodies rows txns serial =
    subst (AllByRecursion (IsOneOf (written_names bodies)))
    (sym (alike-names txns (serial_txns bodies rows (script_numbers txns)) serial.alike))
    (run-names (IsOneOf (written_names bodies)) bodies 1 rows (script_numbers txns)
    (body-names bodies))

lawful_run : (script : ScriptParts) (rows : State) (txns : List Txn) → IsScript script
    → length script.bodies ≤ 65536 → StateFits script.tables rows
    → SerialRun script.bodies rows txns → IsLawfulLog script.tables txns
lawful_run script rows txns is few fits serial =
    let count = run-count script.bodies rows txns serial in
    let each = run-lawful script.tables script.bodies 1 rows (script_numbers txns)
    (numbers-below script.bodies rows txns serial few) is.bodies is.bodies_fit fits in
    record {
      schema = is.schema;
      each_table = is.each_table;
      each_txn = alike-lawful script.tables txns
          (serial_txns script.bodies rows (script_numbers txns)) serial.alike each;
      stamps = serial.stamps;
      count = omega arith;
    }

pub every_run : EveryRunIsWithin
every_run script rows txns is within fits serial =
    let lawful = lawful_run script rows txns is within.transactions fits serial in
    let count = run-count script.bodies rows txns serial in
    let few = within.transactions in
    let some = within.writes in
    let writes = count-writes script.bodies rows txns serial in
    record {
      lawful = lawful;
      transactions = count;
      writes = writes;
      rows = fewer_names (row_names txns) (written_names script.bodies)
          (count-rows script.bodies rows txns serial);
      bytes = log-short script.tables txns lawful (omega arith) (omega arith);
    }
