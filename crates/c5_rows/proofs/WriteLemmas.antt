-- A write put in its place among others.
use Rattle.std.proofs.Common.{◌≡◌, ◌<◌, ◌≤◌, ℕ, zero, suc, true, List, [], ◌∷◌, ◌++◌, Some, None}
use Rattle.std.proofs.Common.{Ordering, Less, Equal, Greater, length, set, get_or, Result, Ok, Err}
use Rattle.std.proofs.Common.{MatchResult, ◌+◌, ◌-◌, inl, inr, refl, ap, subst, ◌∙◌, arith}
use Rattle.std.specs.Prelude.{insert}
use Rattle.std.specs.List.{AllWithin, HoldsAt}
use Rattle.std.specs.List.Sorted.{IsNonDecreasingBy}
use Rattle.std.proofs.lemmas.Bool.{cases_lt}
use Rattle.std.proofs.lemmas.List.Sorted.{searchable_from_sorted}
use Rattle.std.specs.Ordering.{ordering_reverse, ordering_index, is_lt, is_gt}
use Rattle.std.specs.FinMap.Entries.{by_order}
use Rattle.c5_rows.specs.declared.writes.RowName.{RowName}
use Rattle.c5_rows.specs.declared.writes.Write.{Write}
use Rattle.c5_rows.specs.Order.{row_name_cmp, row_name_cmp_total}
use Rattle.c5_rows.specs.Writes.{IsBelowFirst, IsAscending, change_of, put_write}

less_back : (a b : RowName) → row_name_cmp a b ≡ Less → row_name_cmp b a ≡ Greater
less_back a b e = row_name_cmp_total.antisymm b a ∙ ap ordering_reverse e

equal_back : (a b : RowName) → row_name_cmp a b ≡ Equal → row_name_cmp b a ≡ Equal
equal_back a b e = row_name_cmp_total.antisymm b a ∙ ap ordering_reverse e

greater_back : (a b : RowName) → row_name_cmp a b ≡ Greater → row_name_cmp b a ≡ Less
greater_back a b e = row_name_cmp_total.antisymm b a ∙ ap ordering_reverse e

-- a name below the first is below each
pub first_below : (name : RowName) (writes : List Write) → IsBelowFirst name writes
    → IsAscending writes → (k : ℕ) (d : Write) → k < length writes
    → row_name_cmp name (get_or writes k d).name ≡ Less
first_below name [] below up k d lt = absurd (omega arith)
first_below name (write ∷ writes) below up zero d lt = below
first_below name (write ∷ writes) below up (suc k) d lt =
    row_name_cmp_total.trans name write.name (get_or writes k d).name below
    (first_below write.name writes up.0 up.1 k d (omega arith))

pub put_write-gap : (new : Write) (writes : List Write) (i : ℕ) → i ≤ length writes
    → AllWithin (λ w. row_name_cmp w.name new.name ≡ Less) writes 0 i
    → AllWithin (λ w. row_name_cmp w.name new.name ≡ Greater) writes i (length writes)
    → insert writes i new ≡ put_write new writes
put_write-gap new [] zero le low high = refl
put_write-gap new [] (suc i) le low high = absurd (omega arith)
put_write-gap new (write ∷ writes) zero le low high =
    let e : row_name_cmp new.name write.name ≡ Less =
    greater_back write.name new.name (high 0 write (omega arith) (omega arith)) in
    rw e refl
put_write-gap new (write ∷ writes) (suc i) le low high =
    let e : row_name_cmp new.name write.name ≡ Greater =
    less_back write.name new.name (low 0 write (omega arith) (omega arith)) in
    rw e (ap (λ ws. write ∷ ws)
    (put_write-gap new writes i (omega arith)
    (λ k d p q. low (suc k) d (omega arith) (omega arith))
    (λ k d p q. high (suc k) d (omega arith) (omega arith))))

pub put_write-found : (new : Write) (writes : List Write) (i : ℕ) → IsAscending writes
    → i < length writes → HoldsAt (λ w. row_name_cmp w.name new.name ≡ Equal) writes i
    → set writes i new ≡ put_write new writes
put_write-found new [] i up lt at = absurd (omega arith)
put_write-found new (write ∷ writes) zero up lt at =
    let e : row_name_cmp new.name write.name ≡ Equal = equal_back write.name new.name (at write) in
    rw e refl
put_write-found new (write ∷ writes) (suc i) up lt at =
    let below = first_below write.name writes up.0 up.1 i write (omega arith) in
    let same = equal_back (get_or writes i write).name new.name (at write) in
    let e : row_name_cmp new.name write.name ≡ Greater =
    row_name_cmp_total.congr new.name
    (get_or writes i write).name write.name same ∙ less_back write.name
    (get_or writes i write).name below in
    rw e (ap (λ ws. write ∷ ws) (put_write-found new writes i up.1 (omega arith) at))

-- ---- a write that is looked for

pub change_of-found : (name : RowName) (writes : List Write) (i : ℕ) (d : Write)
    → IsAscending writes → i < length writes
    → HoldsAt (λ w. row_name_cmp w.name name ≡ Equal) writes i
    → change_of name writes ≡ Some (get_or writes i d).change
change_of-found name [] i d up lt at = absurd (omega arith)
change_of-found name (write ∷ writes) zero d up lt at =
    let e : row_name_cmp name write.name ≡ Equal = equal_back write.name name (at write) in
    rw e refl
change_of-found name (write ∷ writes) (suc i) d up lt at =
    let below = first_below write.name writes up.0 up.1 i write (omega arith) in
    let same = equal_back (get_or writes i write).name name (at write) in
    let e : row_name_cmp name write.name ≡ Greater =
    row_name_cmp_total.congr name
    (get_or writes i write).name write.name same ∙ less_back write.name
    (get_or writes i write).name below in
    rw e (change_of-found name writes i d up.1 (omega arith) at)

pub change_of-gap : (name : RowName) (writes : List Write) (i : ℕ) → i ≤ length writes
    → AllWithin (λ w. row_name_cmp w.name name ≡ Less) writes 0 i
    → AllWithin (λ w. row_name_cmp w.name name ≡ Greater) writes i (length writes)
    → change_of name writes ≡ None
change_of-gap name [] i le low high = refl
change_of-gap name (write ∷ writes) zero le low high =
    let e : row_name_cmp name write.name ≡ Less =
    greater_back write.name name (high 0 write (omega arith) (omega arith)) in
    rw e (change_of-gap name writes zero (omega arith) (λ k d p q. absurd (omega arith))
    (λ k d p q. high (suc k) d (omega arith) (omega arith)))
change_of-gap name (write ∷ writes) (suc i) le low high =
    let e : row_name_cmp name write.name ≡ Greater =
    less_back write.name name (low 0 write (omega arith) (omega arith)) in
    rw e (change_of-gap name writes i (omega arith)
    (λ k d p q. low (suc k) d (omega arith) (omega arith))
    (λ k d p q. high (suc k) d (omega arith) (omega arith)))

-- ---- the order is kept

below_put : (name : RowName) (new : Write) (writes : List Write) → IsBelowFirst name writes
    → row_name_cmp name new.name ≡ Less → IsBelowFirst name (put_write new writes)
below_put name new [] below less = less
below_put name new (write ∷ writes) below less =
    elim (row_name_cmp new.name write.name) as
    (λ o. IsBelowFirst name
    (by_order o (new ∷ write ∷ writes) (new ∷ writes) (write ∷ put_write new writes))) [
      | Less ↦ less
      | Equal ↦ less
      | Greater ↦ below
    ]

below_same : (a b : RowName) (writes : List Write) → row_name_cmp a b ≡ Equal
    → IsBelowFirst b writes → IsBelowFirst a writes
below_same a b [] same below = tt
below_same a b (write ∷ writes) same below = row_name_cmp_total.congr a b write.name same ∙ below

pub IsAscending-put : (new : Write) (writes : List Write) → IsAscending writes
    → IsAscending (put_write new writes)
IsAscending-put new [] up = (tt, tt)
IsAscending-put new (write ∷ writes) up =
    elim (row_name_cmp new.name write.name) as
    (λ o. row_name_cmp new.name write.name ≡ o
    → IsAscending
    (by_order o (new ∷ write ∷ writes) (new ∷ writes) (write ∷ put_write new writes))) [
      | Less ↦ λ e. (e, up)
      | Equal ↦ λ e. (below_same new.name write.name writes e up.0, up.1)
      | Greater ↦ λ e. (
        below_put write.name new writes up.0 (greater_back new.name write.name e),
        IsAscending-put new writes up.1,
      )
    ] refl

-- a write whose name is above each of the others goes to the end
pub put_write-end : (new : Write) (writes : List Write)
    → AllWithin (λ w. row_name_cmp w.name new.name ≡ Less) writes 0 (length writes)
    → put_write new writes ≡ writes ++ new ∷ []
put_write-end new [] low = refl
put_write-end new (write ∷ writes) low =
    let e : row_name_cmp new.name write.name ≡ Greater =
    less_back write.name new.name (low 0 write (omega arith) (omega arith)) in
    rw e (ap (λ ws. write ∷ ws)
    (put_write-end new writes (λ k d p q. low (suc k) d (omega arith) (omega arith))))

-- ---- where a write is looked for

-- of two writes the earlier one has the smaller name
pub far_below : (writes : List Write) (i j : ℕ) (d : Write) → IsAscending writes → i < j
    → j < length writes → row_name_cmp (get_or writes i d).name (get_or writes j d).name ≡ Less
far_below [] i j d up lt within = absurd (omega arith)
far_below (write ∷ writes) i zero d up lt within = absurd (omega arith)
far_below (write ∷ writes) zero (suc j) d up lt within =
    first_below write.name writes up.0 up.1 j d (omega arith)
far_below (write ∷ writes) (suc i) (suc j) d up lt within =
    far_below writes i j d up.1 (omega arith) (omega arith)

-- a name above the last one is above each
pub above_last : (name : RowName) (writes : List Write) → IsAscending writes → 0 < length writes
    → HoldsAt (λ w. row_name_cmp name w.name ≡ Greater) writes (length writes - 1)
    → AllWithin (λ w. row_name_cmp w.name name ≡ Less) writes 0 (length writes)
above_last name writes up some above k d low high =
    let last : row_name_cmp (get_or writes (length writes - 1) d).name name ≡ Less =
    greater_back name (get_or writes (length writes - 1) d).name (above d) in
    elim (cases_lt k (length writes - 1)) [
      | inl lt ↦ row_name_cmp_total.trans (get_or writes k d).name
          (get_or writes (length writes - 1) d).name name
          (far_below writes k (length writes - 1) d up lt (omega arith)) last
      | inr le ↦ let same : length writes - 1 ≡ k = omega arith in
          subst (λ (n : ℕ). row_name_cmp (get_or writes n d).name name ≡ Less) same last
    ]

-- the writes are in the order that a binary search asks
pub searchable : (name : RowName) (writes : List Write) → IsAscending writes
    → IsNonDecreasingBy (λ w. ordering_index (row_name_cmp w.name name)) writes
searchable name writes up =
    searchable_from_sorted row_name_cmp_total (λ w. w.name) writes name
    (λ k d low high. ap is_lt
    (less_back (get_or writes k d).name (get_or writes (k + 1) d).name
    (far_below writes k (k + 1) d up (omega arith) high)))

pub searched : (P Q : ℕ → Type 0) (N : Type 0) (r : Result ℕ ℕ) → MatchResult r P (λ i. N → Q i) → N
    → MatchResult r P Q
searched P Q N (Ok i) m n = m
searched P Q N (Err i) m n = m n

pub gt_greater : (o : Ordering) → is_gt o ≡ true → o ≡ Greater
gt_greater Less e = absurd cc
gt_greater Equal e = absurd cc
gt_greater Greater e = refl
