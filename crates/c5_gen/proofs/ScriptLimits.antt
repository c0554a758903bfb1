-- A generated script is within the limits.
use Rattle.std.proofs.Common.{◌≡◌, ◌||◌, ◌⊎◌, inl, inr, true≢false, add-one, ℕ, zero, suc, ◌+◌, ◌*◌}
use Rattle.std.proofs.Common.{◌<◌, ◌≤◌, List, [], ◌∷◌, ◌++◌, map, length, None}
use Rattle.std.proofs.Common.{Bool, true, false, refl, sym, ap, subst, ◌∙◌, arith, length-append}
use Rattle.std.specs.List.{AllByRecursion, list_any, range_with_len, filter_map}
use Rattle.std.specs.Ordering.{eq_by_cmp, is_eq}
use Rattle.std.specs.Set.{distinct_count}
use Rattle.std.specs.Cmp.{eq_by_cmp_equiv, Equal-is}
use Rattle.std.proofs.lemmas.Bool.{le-ltb, cases_lt}
use Rattle.std.proofs.lemmas.List.Folds.{list_any-append}
use Rattle.std.proofs.lemmas.List.FromFn.{length-map-range_with_len}
use Rattle.std.proofs.lemmas.Map.Made.{length-from_keys, IsDistinct-from_count}
use Rattle.c5_rows.specs.Order.{row_name_cmp, row_name_cmp_total, row_name_cmp_exact}
use Rattle.c5_rows.specs.Sizes.{max_transactions, max_writes, max_rows}
use Rattle.c5_rows.specs.declared.writes.RowName.{RowName}
use Rattle.c5_definitions.specs.Generated.{account, account_count, draw, transfer_of, opening_body}
use Rattle.c5_definitions.specs.Generated.{generated_body}
use Rattle.c5_definitions.specs.Generated.{generated_bodies, generated_script}
use Rattle.c5_definitions.specs.Limits.{written_name, written_names, excess_in, excess_of}
use Rattle.c5_gen.proofs.Drawn.{draw-small, transfer-is}
use Rattle.c5_gen.proofs.Names.{account-itself}
use Rattle.c5_gen.proofs.Opening.{IsAccount}
use Rattle.c5_gen.proofs.Transfers.{IsTransfer}

abbrev is_same : RowName → RowName → Bool
is_same = eq_by_cmp row_name_cmp

abbrev all_accounts : List RowName
all_accounts = map account (range_with_len 0 account_count)

-- ---- names of accounts

later : (b c : Bool) → c ≡ true → (b || c) ≡ true
later true c e = refl
later false c e = e

among-step : (n k : ℕ) (rest : List RowName) → k ≤ n → (k < n) ⊎ (n ≤ k)
    → (k < n → list_any (is_same (account n)) rest ≡ true)
    → list_any (is_same (account n)) (account k ∷ rest) ≡ true
among-step n k rest least (inl lt) found =
    later (is_same (account n) (account k)) (list_any (is_same (account n)) rest) (found lt)
among-step n k rest least (inr le) found =
    ap (λ o. is_eq o || list_any (is_same (account n)) rest) (account-itself n k (omega arith))

among-range : (n m k : ℕ) → k ≤ n → n < k + m
    → list_any (is_same (account n)) (map account (range_with_len k m)) ≡ true
among-range n zero k least most = absurd (omega arith)
among-range n (suc m) k least most =
    among-step n k (map account (range_with_len (k + 1) m)) least (cases_lt k n)
    (λ lt. among-range n m (k + 1) (omega arith) (omega arith))

abbrev IsKnown : RowName → Type 0
IsKnown q = list_any (is_same q) all_accounts ≡ true

known-by : (name q : RowName) (b c : Bool) → is_same q name ≡ b → IsAccount name
    → (c ≡ true → IsKnown q) → (b || c) ≡ true → IsKnown q
known-by name q true c same is rest found =
    subst IsKnown
    (sym (row_name_cmp_exact q name ((Equal-is (row_name_cmp q name)).0 same) ∙ is.2))
    (among-range is.0 account_count 0 (omega arith) (omega (arith, is.1)))
known-by name q false c same is rest found = rest found

known : (names : List RowName) → AllByRecursion IsAccount names → (q : RowName)
    → list_any (is_same q) names ≡ true → IsKnown q
known [] all q found = absurd (true≢false (sym found))
known (name ∷ names) all q found =
    known-by name q (is_same q name) (list_any (is_same q) names) refl all.0
    (known names all.1 q) found

-- ---- what bodies write

-- two names for each transfer
record TransferNames (names : List RowName) (n : ℕ) : Type 0 where
  count : length names ≡ 2 * n
  accounts : AllByRecursion IsAccount names

transfer-names : (n k : ℕ)
    → TransferNames (written_names (map generated_body (range_with_len (k + 1) n))) n
transfer-names zero k = record { count = refl; accounts = tt }
transfer-names (suc n) k =
    subst (λ j. TransferNames (written_names (map generated_body (range_with_len j (suc n))))
    (suc n))
    (sym (add-one k))
    (let rest : TransferNames
    (written_names (map generated_body (range_with_len (suc k + 1) n))) n =
    transfer-names n (suc k) in
    let is : IsTransfer (transfer_of (draw (suc k))) =
    transfer-is (draw (suc k)) (draw-small (suc k)) in
    record {
      count = omega (arith, rest.count);
      accounts = (
        ((transfer_of (draw (suc k))).from, is.from, refl),
        (((transfer_of (draw (suc k))).to, is.to, refl), rest.accounts),
      );
    })

opening-names : filter_map written_name opening_body ≡ all_accounts
opening-names = refl

or-known : (b c : Bool) → (c ≡ true → b ≡ true) → (b || c) ≡ b
or-known true c h = refl
or-known false true h = sym (h refl)
or-known false false h = refl

same-members : (rest : List RowName) → AllByRecursion IsAccount rest → (q : RowName)
    → list_any (is_same q) all_accounts ≡ list_any (is_same q) (all_accounts ++ rest)
same-members rest all q =
    sym (list_any-append (is_same q) all_accounts rest
    ∙ or-known (list_any (is_same q) all_accounts) (list_any (is_same q) rest) (known rest all q))

all-distinct : distinct_count is_same all_accounts ≡ length all_accounts
all-distinct = refl

rows-are : (rest : List RowName) → AllByRecursion IsAccount rest
    → distinct_count is_same (all_accounts ++ rest) ≡ account_count
rows-are rest all =
    sym (length-from_keys (eq_by_cmp_equiv row_name_cmp_total) all_accounts (all_accounts ++ rest)
    (IsDistinct-from_count (eq_by_cmp_equiv row_name_cmp_total) all_accounts all-distinct)
    (same-members rest all))

-- ---- the limits

excess-none : (a b c : ℕ) → a ≤ max_transactions → b ≤ max_writes → c ≤ max_rows
    → excess_in a b c ≡ None
excess-none a b c few less least =
    rw (le-ltb max_transactions a few, le-ltb max_writes b less, le-ltb max_rows c least) refl

abbrev later_names : ℕ → List RowName
later_names n = written_names (map generated_body (range_with_len 1 n))

names-length : (n : ℕ) → length (all_accounts ++ later_names n) ≡ account_count + 2 * n
names-length n =
    omega (
      arith,
      length-append all_accounts (later_names n),
      length-map-range_with_len account 0 account_count,
      (transfer-names n 0).count,
    )

pub script-limits : (count : ℕ) → count ≤ max_transactions
    → excess_of (generated_script count) ≡ None
unfolding excess_of generated_script
script-limits zero few = refl
script-limits (suc n) few =
    excess-none (length (generated_bodies (suc n))) (length (all_accounts ++ later_names n))
    (distinct_count is_same (all_accounts ++ later_names n))
    (omega (arith, length-map-range_with_len generated_body 0 (suc n)))
    (omega (arith, names-length n))
    (omega (arith, rows-are (later_names n) (transfer-names n 0).accounts))
