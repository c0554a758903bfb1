-- The rows after one more transaction.
use Rattle.std.proofs.Common.{◌≡◌, ◌<◌, ◌∙◌, ℕ, zero, suc, Bool, true, false, cond, List, [], ◌∷◌}
use Rattle.std.proofs.Common.{◌++◌, Option, Some, None, MatchOption, Less, Equal, Greater, length}
use Rattle.std.proofs.Common.{get_or, refl, ap, sym, subst, arith}
use Rattle.std.specs.FinMap.{get, get-insert, get-remove}
use Rattle.std.specs.Ordering.{eq_by_cmp, is_eq, ordering_reverse}
use Rattle.std.specs.BTreeMap.{is_at}
use Rattle.std.specs.Cmp.{eq_by_cmp_equiv}
use Rattle.std.specs.List.{slice_get}
use Rattle.std.proofs.lemmas.Option.{slice_get_within}
use Rattle.c5_rows.specs.declared.cells.Cell.{Cell}
use Rattle.c5_rows.specs.declared.writes.RowName.{RowName}
use Rattle.c5_rows.specs.declared.writes.Change.{Change}
use Rattle.c5_rows.specs.declared.writes.Change.TheVariants.{Put, Gone}
use Rattle.c5_rows.specs.declared.writes.Write.{Write}
use Rattle.c5_rows.specs.declared.writes.Txn.{Txn}
use Rattle.c5_rows.specs.Order.{row_name_cmp, row_name_cmp_total}
use Rattle.c5_rows.specs.State.{State, after_change, after_writes, after_txns}
use Rattle.c5_rows.specs.Writes.{IsBelowFirst, IsAscending, change_of}
use Rattle.c5_rows.proofs.WriteLemmas.{first_below, change_of-gap}
use Rattle.c5_primary.specs.Latest.{row_kept, place_at, noted, IsLeftAt, LeadsToRows}

-- ---- a row after writes

-- what a change leaves, or else the row that was there
abbrev left_or : Option Change → Option (List Cell) → Option (List Cell)
left_or None row = row
left_or (Some change) row = row_kept (Some change)

get-after_change : (name : RowName) (change : Change) (state : State) (q : RowName)
    → get (after_change name change state) q
    ≡ cond (eq_by_cmp row_name_cmp q name) (row_kept (Some change)) (get state q)
get-after_change name (Put row) state q = get-insert row_name_cmp_total state name row q
get-after_change name Gone state q = get-remove row_name_cmp_total state name q

-- none of the writes after a write has its name
no-other : (q name : RowName) (writes : List Write) → row_name_cmp q name ≡ Equal
    → IsBelowFirst name writes → IsAscending writes → change_of q writes ≡ None
no-other q name writes same below up =
    change_of-gap q writes 0 (omega arith) (λ k d low high. absurd (omega arith))
    (λ k d low high.
    let above : row_name_cmp q (get_or writes k d).name ≡ Less =
    row_name_cmp_total.congr q name
    (get_or writes k d).name same ∙ first_below name writes below up k d high in
    row_name_cmp_total.antisymm (get_or writes k d).name q ∙ ap ordering_reverse above)

equal-from : (q name : RowName) → eq_by_cmp row_name_cmp q name ≡ true → row_name_cmp q name ≡ Equal
equal-from q name e = elim (row_name_cmp q name) as (λ o. is_eq o ≡ true → o ≡ Equal) [
  | Less ↦ λ e. absurd cc
  | Equal ↦ λ e. refl
  | Greater ↦ λ e. absurd cc
] e

get-after_writes : (writes : List Write) (state : State) (q : RowName) → IsAscending writes
    → get (after_writes writes state) q ≡ left_or (change_of q writes) (get state q)
get-after_writes [] state q up = refl
get-after_writes (write ∷ writes) state q up =
    get-after_writes writes (after_change write.name write.change state) q up.1
    ∙ ap (left_or (change_of q writes)) (get-after_change write.name write.change state q)
    ∙ by (eq_by_cmp row_name_cmp q write.name) refl
  where
    by : (b : Bool) → eq_by_cmp row_name_cmp q write.name ≡ b
        → left_or (change_of q writes) (cond b (row_kept (Some write.change)) (get state q))
        ≡ left_or (cond b (Some write.change) (change_of q writes)) (get state q)
    by true e = ap (λ o. left_or o (row_kept (Some write.change)))
        (no-other q write.name writes (equal-from q write.name e) up.0 up.1)
    by false e = refl

-- ---- what is noted

abbrev place_or : Option Change → ℕ → Option ℕ → Option ℕ
place_or None place old = old
place_or (Some change) place old = Some place

noted-change : (writes : List Write) (place : ℕ) (q : RowName) (old : Option ℕ)
    → noted writes place q old ≡ place_or (change_of q writes) place old
noted-change [] place q old = refl
noted-change (write ∷ writes) place q old =
    noted-change writes place q (cond (is_at (row_name_cmp write.name) q) (Some place) old)
    ∙ ap (λ b. place_or (change_of q writes) place (cond b (Some place) old))
    ((eq_by_cmp_equiv row_name_cmp_total).symm write.name q)
    ∙ by (eq_by_cmp row_name_cmp q write.name) (change_of q writes)
  where
    by : (b : Bool) (others : Option Change)
        → place_or others place (cond b (Some place) old)
        ≡ place_or (cond b (Some write.change) others) place old
    by true None = refl
    by true (Some change) = refl
    by false others = refl

-- ---- one more transaction

pub after_txns-push : (txns : List Txn) (txn : Txn) (state : State)
    → after_txns (txns ++ txn ∷ []) state ≡ after_writes txn.writes (after_txns txns state)
after_txns-push [] txn state = refl
after_txns-push (first ∷ txns) txn state =
    after_txns-push txns txn (after_writes first.writes state)

still_there : {X : Type 0} (xs : List X) (x y : X) (i : ℕ) → slice_get xs i ≡ Some y
    → slice_get (xs ++ x ∷ []) i ≡ Some y
still_there [] x y i e = absurd cc
still_there (z ∷ xs) x y zero e = e
still_there (z ∷ xs) x y (suc i) e = still_there xs x y i e

at_end : {X : Type 0} (xs : List X) (x : X) → slice_get (xs ++ x ∷ []) (length xs) ≡ Some x
at_end [] x = refl
at_end (z ∷ xs) x = at_end xs x

abbrev Leaves : RowName → Option (List Cell) → Option Txn → Type 0
Leaves q row found = MatchOption found ⊥ (λ t. row ≡ row_kept (change_of q t.writes))

-- a row that the new transaction leaves alone
kept : (start : State) (txns : List Txn) (txn : Txn) (q : RowName) (place : Option ℕ)
    → IsLeftAt start txns q place → get (after_txns (txns ++ txn ∷ []) start) q
    ≡ get (after_txns txns start) q → IsLeftAt start (txns ++ txn ∷ []) q place
kept start txns txn q None left same = same ∙ left
kept start txns txn q (Some place) left same = by (slice_get txns place) refl left
  where
    by : (found : Option Txn) → slice_get txns place ≡ found
        → Leaves q (get (after_txns txns start) q) found
        → Leaves q (get (after_txns (txns ++ txn ∷ []) start) q)
        (slice_get (txns ++ txn ∷ []) place)
    by None at h = absurd h
    by (Some t) at h = subst (Leaves q (get (after_txns (txns ++ txn ∷ []) start) q))
        (sym (still_there txns txn t place at)) (same ∙ h)

pub leads-further : (start : State) (txns : List Txn) (txn : Txn) (old new : List (RowName × ℕ))
    → IsAscending txn.writes → LeadsToRows start txns old
    → ((q : RowName) → place_at new q ≡ noted txn.writes (length txns) q (place_at old q))
    → LeadsToRows start (txns ++ txn ∷ []) new
leads-further start txns txn old new up leads is q =
    subst (IsLeftAt start (txns ++ txn ∷ []) q)
    (sym (is q ∙ noted-change txn.writes (length txns) q (place_at old q)))
    (by (change_of q txn.writes) refl)
  where
    after : get (after_txns (txns ++ txn ∷ []) start) q
        ≡ left_or (change_of q txn.writes) (get (after_txns txns start) q)
    after = ap (λ (s : State). get s q)
        (after_txns-push txns txn start) ∙ get-after_writes txn.writes (after_txns txns start) q up

    by : (change : Option Change) → change_of q txn.writes ≡ change
        → IsLeftAt start (txns ++ txn ∷ []) q (place_or change (length txns) (place_at old q))
    by None e = kept start txns txn q (place_at old q) (leads q)
        (after ∙ ap (λ c. left_or c (get (after_txns txns start) q)) e)
    by (Some change) e =
        subst (Leaves q (get (after_txns (txns ++ txn ∷ []) start) q)) (sym (at_end txns txn))
        (after ∙ ap (λ c. left_or c (get (after_txns txns start) q)) e ∙ sym (ap row_kept e))

pub leads-first : (start : State) (txns : List Txn) (places : List (RowName × ℕ)) → txns ≡ []
    → places ≡ [] → LeadsToRows start txns places
leads-first start txns places none nowhere = rw (none, nowhere) (λ q. refl)

-- ---- a row that is looked for

pub place-within : (start : State) (txns : List Txn) (q : RowName) (place : ℕ)
    → IsLeftAt start txns q (Some place) → place < length txns
place-within start txns q place left = by (slice_get txns place) refl left
  where
    by : (found : Option Txn) → slice_get txns place ≡ found
        → Leaves q (get (after_txns txns start) q) found → place < length txns
    by None at h = absurd h
    by (Some t) at h = slice_get_within txns place t at

pub row-there : (start : State) (txns : List Txn) (q : RowName) (place : ℕ) (t : Txn)
    → IsLeftAt start txns q (Some place) → slice_get txns place ≡ Some t
    → row_kept (change_of q t.writes) ≡ get (after_txns txns start) q
row-there start txns q place t left at =
    sym (subst (Leaves q (get (after_txns txns start) q)) at left)
