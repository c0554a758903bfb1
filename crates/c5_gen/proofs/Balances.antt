-- Rows that have a balance for each account, and no others.
use Rattle.std.proofs.Common.{◌≡◌, ℕ, zero, suc, ◌+◌, ◌<◌, cond, List, [], ◌∷◌}
use Rattle.std.proofs.Common.{◌++◌, map, length, get_or, set, sum, pos, ◌+ℤ◌, Some, Ordering}
use Rattle.std.proofs.Common.{refl, sym, ap, ◌∙◌, arith}
use Rattle.std.specs.FinMap.{get, insert, entries, find, put, get-entries, entries-insert}
use Rattle.std.specs.FinMap.Entries.{by_order}
use Rattle.std.specs.Ordering.{is_eq}
use Rattle.std.proofs.lemmas.List.{length-map, map-set, get_or-map}
use Rattle.std.proofs.lemmas.List.Sums.{sum_by-cons}
use Rattle.c5_rows.specs.declared.writes.RowName.{RowName}
use Rattle.c5_rows.specs.Order.{row_name_cmp, row_name_cmp_total}
use Rattle.c5_rows.specs.State.{State, entry_of, rows_of}
use Rattle.c5_definitions.specs.Generated.{account, balance_row}
use Rattle.c5_definitions.specs.Summaries.{rows_total}
use Rattle.c5_gen.proofs.Names.{account-above, account-itself, account-apart}

-- a value for each account, from number k on
abbrev pub accounts_from : {X : Type 0} → ℕ → List X → List (RowName × X)
accounts_from k [] = []
accounts_from k (x ∷ xs) = (account k, x) ∷ accounts_from (k + 1) xs

find-in : {X : Type 0} (k n j : ℕ) (xs : List X) (d : X) → n ≡ k + j → j < length xs
    → find row_name_cmp (account n) (accounts_from k xs) ≡ Some (get_or xs j d)
find-in k n j [] d at lt = absurd (omega arith)
find-in k n zero (x ∷ xs) d at lt =
    ap (λ o. cond (is_eq o) (Some x) (find row_name_cmp (account n) (accounts_from (k + 1) xs)))
    (account-itself n k (omega arith))
find-in k n (suc j) (x ∷ xs) d at lt =
    ap (λ b. cond b (Some x) (find row_name_cmp (account n) (accounts_from (k + 1) xs)))
    (account-apart n k (λ e. omega arith))
    ∙ find-in (k + 1) n j xs d (omega arith) (omega arith)

-- the places that an entry may get beside the first of some entries
abbrev pub placed : {X : Type 0} → Ordering → RowName → X → RowName × X → List (RowName × X)
    → List (RowName × X)
placed o name x e es =
    by_order o ((name, x) ∷ e ∷ es) ((e.0, x) ∷ es) (e ∷ put row_name_cmp name x es)

put-in : {X : Type 0} (k n j : ℕ) (xs : List X) (x : X) → n ≡ k + j → j < length xs
    → put row_name_cmp (account n) x (accounts_from k xs) ≡ accounts_from k (set xs j x)
put-in k n j [] x at lt = absurd (omega arith)
put-in k n zero (y ∷ ys) x at lt =
    ap (λ o. placed o (account n) x (account k, y) (accounts_from (k + 1) ys))
    (account-itself n k (omega arith))
put-in k n (suc j) (y ∷ ys) x at lt =
    ap (λ o. placed o (account n) x (account k, y) (accounts_from (k + 1) ys))
    (account-above n k (omega arith))
    ∙ ap (λ es. (account k, y) ∷ es) (put-in (k + 1) n j ys x (omega arith) (omega arith))

pub put-after : {X : Type 0} (k n : ℕ) (xs : List X) (x : X) → n ≡ k + length xs
    → put row_name_cmp (account n) x (accounts_from k xs) ≡ accounts_from k (xs ++ x ∷ [])
put-after k n [] x at = ap (λ m. (account m, x) ∷ []) (omega arith)
put-after k n (y ∷ ys) x at =
    ap (λ o. placed o (account n) x (account k, y) (accounts_from (k + 1) ys))
    (account-above n k (omega arith))
    ∙ ap (λ es. (account k, y) ∷ es) (put-after (k + 1) n ys x (omega arith))

-- ---- states

-- the rows are these balances of the accounts from 0 on
pub record Shows (state : State) (balances : List ℕ) : Type 0 where
  pub held : entries state ≡ accounts_from 0 (map balance_row balances)

pub shows-insert : (state : State) (balances : List ℕ) (n b : ℕ) → Shows state balances
    → n < length balances → Shows (insert state (account n) (balance_row b)) (set balances n b)
shows-insert state balances n b is lt = record {
  held =
      entries-insert row_name_cmp_total state (account n) (balance_row b)
      ∙ ap (put row_name_cmp (account n) (balance_row b)) is.held
      ∙ put-in 0 n n (map balance_row balances) (balance_row b) (omega arith)
      (omega (arith, length-map balances balance_row))
      ∙ ap (accounts_from 0) (sym (map-set balance_row balances n b));
}

pub shows-get : (state : State) (balances : List ℕ) (n : ℕ) → Shows state balances
    → n < length balances → get state (account n) ≡ Some (balance_row (get_or balances n 0))
shows-get state balances n is lt =
    get-entries state (account n)
    ∙ ap (find row_name_cmp (account n)) is.held
    ∙ find-in 0 n n (map balance_row balances) (balance_row 0) (omega arith)
    (omega (arith, length-map balances balance_row))
    ∙ ap Some (get_or-map balance_row balances n 0 (balance_row 0) lt)

-- ---- totals

total-from : (k : ℕ) (balances : List ℕ)
    → rows_total (map entry_of (accounts_from k (map balance_row balances))) ≡ pos (sum balances)
total-from k [] = refl
total-from k (b ∷ bs) =
    ap (λ n. pos (b + 0) +ℤ n) (total-from (k + 1) bs)
    ∙ ap pos (omega (arith, sum_by-cons (λ (x : ℕ). x) b bs))

pub shows-total : (state : State) (balances : List ℕ) → Shows state balances
    → rows_total (rows_of state) ≡ pos (sum balances)
shows-total state balances is =
    ap (λ es. rows_total (map entry_of es)) is.held ∙ total-from 0 balances

length-accounts : {X : Type 0} (k : ℕ) (xs : List X) → length (accounts_from k xs) ≡ length xs
length-accounts k [] = refl
length-accounts k (x ∷ xs) = ap suc (length-accounts (k + 1) xs)

pub shows-count : (state : State) (balances : List ℕ) → Shows state balances
    → length (rows_of state) ≡ length balances
shows-count state balances is =
    length-map (entries state) entry_of
    ∙ ap length is.held
    ∙ length-accounts 0 (map balance_row balances)
    ∙ length-map balances balance_row
