-- A row after writes.
use Rattle.std.proofs.Common.{◌≡◌, ◌∙◌, ℕ, Bool, true, false, cond, List, [], ◌∷◌, Option, Some}
use Rattle.std.proofs.Common.{None, Less, Equal, Greater, length, get_or, refl, ap, arith}
use Rattle.std.specs.FinMap.{get, get-insert, get-remove}
use Rattle.std.specs.Ordering.{eq_by_cmp, is_eq, ordering_reverse}
use Rattle.c5_rows.specs.declared.cells.Cell.{Cell}
use Rattle.c5_rows.specs.declared.writes.RowName.{RowName}
use Rattle.c5_rows.specs.declared.writes.Change.{Change}
use Rattle.c5_rows.specs.declared.writes.Change.TheVariants.{Put, Gone}
use Rattle.c5_rows.specs.declared.writes.Write.{Write}
use Rattle.c5_rows.specs.Order.{row_name_cmp, row_name_cmp_total}
use Rattle.c5_rows.specs.State.{State, after_change, after_writes}
use Rattle.c5_rows.specs.Writes.{IsBelowFirst, IsAscending, change_of}
use Rattle.c5_rows.proofs.WriteLemmas.{first_below, change_of-gap}
use Rattle.c5_definitions.specs.History.{row_left}

-- what a change leaves, or else the row that was there
abbrev pub left_or : Option Change → Option (List Cell) → Option (List Cell)
left_or None row = row
left_or (Some change) row = row_left change

get-after_change : (name : RowName) (change : Change) (state : State) (q : RowName)
    → get (after_change name change state) q
    ≡ cond (eq_by_cmp row_name_cmp q name) (row_left change) (get state q)
get-after_change name (Put row) state q = get-insert row_name_cmp_total state name row q
get-after_change name Gone state q = get-remove row_name_cmp_total state name q

-- none of the writes after a write has its name
no-other : (q name : RowName) (writes : List Write) → row_name_cmp q name ≡ Equal
    → IsBelowFirst name writes → IsAscending writes → change_of q writes ≡ None
no-other q name writes same below up =
    change_of-gap q writes 0 (omega arith) (λ k d low high. absurd (omega arith))
    (λ k d low high.
    let above : row_name_cmp q (get_or writes k d).name ≡ Less =
    row_name_cmp_total.congr q name
    (get_or writes k d).name same ∙ first_below name writes below up k d high in
    row_name_cmp_total.antisymm (get_or writes k d).name q ∙ ap ordering_reverse above)

equal-from : (q name : RowName) → eq_by_cmp row_name_cmp q name ≡ true → row_name_cmp q name ≡ Equal
equal-from q name e = elim (row_name_cmp q name) as (λ o. is_eq o ≡ true → o ≡ Equal) [
  | Less ↦ λ e. absurd cc
  | Equal ↦ λ e. refl
  | Greater ↦ λ e. absurd cc
] e

pub get-after_writes : (writes : List Write) (state : State) (q : RowName) → IsAscending writes
    → get (after_writes writes state) q ≡ left_or (change_of q writes) (get state q)
get-after_writes [] state q up = refl
get-after_writes (write ∷ writes) state q up =
    get-after_writes writes (after_change write.name write.change state) q up.1
    ∙ ap (left_or (change_of q writes)) (get-after_change write.name write.change state q)
    ∙ by (eq_by_cmp row_name_cmp q write.name) refl
  where
    by : (b : Bool) → eq_by_cmp row_name_cmp q write.name ≡ b
        → left_or (change_of q writes) (cond b (row_left write.change) (get state q))
        ≡ left_or (cond b (Some write.change) (change_of q writes)) (get state q)
    by true e = ap (λ o. left_or o (row_left write.change))
        (no-other q write.name writes (equal-from q write.name e) up.0 up.1)
    by false e = refl
