-- After the first transactions a row is what its last write made of it.
use Rattle.std.proofs.Common.{◌≡◌, ◌∙◌, ◌+◌, ◌≤◌, ◌<◌, ℕ, zero, suc, Bool, true, false, cond, List}
use Rattle.std.proofs.Common.{[], ◌∷◌, ◌++◌, length, take, map, slice_get, option_map, Option, Some}
use Rattle.std.proofs.Common.{None, ap, sym, subst, refl, arith, true≢false}
use Rattle.std.specs.FinMap.{get, get-insert, get-remove}
use Rattle.std.specs.Ordering.{is_eq, eq_by_cmp}
use Rattle.std.specs.Cmp.{eq_by_cmp_equiv, tied_itself}
use Rattle.std.specs.declared.cmp.Ordering.{Ordering}
use Rattle.std.specs.declared.cmp.Ordering.TheVariants.{Less, Equal, Greater}
use Rattle.std.proofs.lemmas.Option.{slice_get-map}
use mathlib.Core.Logic.{dite}
use native.Mathlib.Decide.{ℕ_discrete}
use Rattle.c5_rows.specs.declared.cells.Cell.{Cell}
use Rattle.c5_rows.specs.declared.writes.RowName.{RowName}
use Rattle.c5_rows.specs.declared.writes.Change.{Change}
use Rattle.c5_rows.specs.declared.writes.Change.TheVariants as changes
use Rattle.c5_rows.specs.declared.writes.Write.{Write}
use Rattle.c5_rows.specs.declared.writes.Txn.{Txn}
use Rattle.c5_rows.specs.Order.{row_name_cmp, row_name_cmp_total, row_name_cmp_exact}
use Rattle.c5_rows.specs.State.{State, after_change, after_writes, after_txns, state_after}
use Rattle.c5_definitions.specs.Searches.{greatest_below}
use Rattle.c5_definitions.specs.WriteNumbers.{names_in, name_at, are_one, are_on_one_row}
use Rattle.c5_definitions.specs.WriteNumbers.{last_on_row, end_of, IsWrite}
use Rattle.c5_definitions.proofs.SearchLemmas.{greatest-not_above, greatest-passes}
use Rattle.c5_definitions.proofs.NumberLemmas.{length-names_in, end-within}
use Rattle.c5_frames.specs.Index.{writes_of}
use Rattle.c5_chains.specs.Chains.{at_number, at_change, at_change_of}
use Rattle.c5_reads.specs.RowLaw.{row_or_before, RowsAreOfLastWrites}

-- ---- names

-- whether write v has this name
abbrev pub has_name : List RowName → RowName → ℕ → Bool
has_name names name v = are_one (name_at names v) (Some name)

equal_from : (o : Ordering) → is_eq o ≡ true → o ≡ Equal
equal_from Less e = absurd (true≢false (sym e))
equal_from Equal e = refl
equal_from Greater e = absurd (true≢false (sym e))

pub named_from : (o : Option RowName) (name : RowName) → are_one o (Some name) ≡ true
    → o ≡ Some name
named_from None name e = absurd (true≢false (sym e))
named_from (Some a) name e = ap Some
    (row_name_cmp_exact a name (equal_from (row_name_cmp a name) e))

pub has_own_name : (o : Option RowName) (name : RowName) → o ≡ Some name
    → are_one o (Some name) ≡ true
has_own_name None name e = absurd cc
has_own_name (Some a) name e = let same : name ≡ a = cc in
    subst (λ (n : RowName). is_eq (row_name_cmp a n) ≡ true) (sym same)
    (ap is_eq (tied_itself row_name_cmp_total a))

within_names : (names : List RowName) (i : ℕ) (name : RowName) → slice_get names i ≡ Some name
    → i < length names
within_names [] i name e = absurd cc
within_names (n ∷ ns) zero name e = omega arith
within_names (n ∷ ns) (suc i) name e = let r = within_names ns i name e in omega arith

pub write_named : (names : List RowName) (w : ℕ) (name : RowName) → name_at names w ≡ Some name
    → IsWrite names w
write_named names zero name e = absurd cc
write_named names (suc i) name e = let h = within_names names i name e in
    record { positive = omega arith; within = omega arith }

-- ---- the writes of the first transactions

take-joined : {X : Type 0} (a b c : List X)
    → take (length (a ++ b)) (a ++ c) ≡ a ++ take (length b) c
take-joined [] b c = refl
take-joined (x ∷ a) b c = ap (λ rest. x ∷ rest) (take-joined a b c)

first-writes : (txns : List Txn) (p : ℕ) → take (length (writes_of (take p txns))) (writes_of txns)
    ≡ writes_of (take p txns)
first-writes txns zero = refl
first-writes [] (suc p) = refl
first-writes (txn ∷ txns) (suc p) =
    take-joined txn.writes (writes_of (take p txns)) (writes_of txns) ∙ ap
    (λ rest. txn.writes ++ rest) (first-writes txns p)

after-joined : (a b : List Write) (state : State)
    → after_writes (a ++ b) state ≡ after_writes b (after_writes a state)
after-joined [] b state = refl
after-joined (w ∷ a) b state = after-joined a b (after_change w.name w.change state)

after-writes : (txns : List Txn) (state : State)
    → after_txns txns state ≡ after_writes (writes_of txns) state
after-writes [] state = refl
after-writes (txn ∷ txns) state =
    after-writes txns (after_writes txn.writes state) ∙ sym
    (after-joined txn.writes (writes_of txns) state)

state_is : (start : State) (txns : List Txn) (place : ℕ)
    → state_after start txns place ≡ after_writes (take (end_of txns place) (writes_of txns)) start
unfolding end_of
state_is start txns place = after-writes (take place txns) start ∙ ap (λ ws. after_writes ws start)
    (sym (first-writes txns place))

-- ---- one more write

after-one : (ws : List Write) (n : ℕ) (write : Write) (state : State) → slice_get ws n ≡ Some write
    → after_writes (take (suc n) ws) state
    ≡ after_change write.name write.change (after_writes (take n ws) state)
after-one [] n write state e = absurd cc
after-one (w ∷ ws) zero write state e = let same : w ≡ write = cc in
    ap (λ (x : Write). after_change x.name x.change state) same
after-one (w ∷ ws) (suc n) write state e =
    after-one ws n write (after_change w.name w.change state) e

element : (ws : List Write) (n : ℕ) → n < length ws → (write : Write)
    × (slice_get ws n ≡ Some write)
element [] n h = absurd (omega arith)
element (w ∷ ws) zero h = (w, refl)
element (w ∷ ws) (suc n) h = element ws n (omega arith)

-- the row that a change leaves
abbrev change_row : Change → Option (List Cell)
change_row (changes.Put row) = Some row
change_row changes.Gone = None

row_changed : (change : Change) (name q : RowName) (state : State)
    → get (after_change name change state) q
    ≡ cond (eq_by_cmp row_name_cmp q name) (change_row change) (get state q)
row_changed (changes.Put row) name q state = get-insert row_name_cmp_total state name row q
row_changed changes.Gone name q state = get-remove row_name_cmp_total state name q

row_made : (change : Change) (before : Option (List Cell))
    → change_row change ≡ row_or_before (at_change change) before
row_made (changes.Put row) before = refl
row_made changes.Gone before = refl

module _ (ws : List Write) (start : State) (name : RowName) where
  abbrev of : List RowName
  of = map (λ (w : Write). w.name) ws

  abbrev last_up_to : ℕ → ℕ
  last_up_to n = greatest_below (has_name of name) (suc n)

  -- whether a write has the name, by its place
  test-is : (n : ℕ) (write : Write) → slice_get ws n ≡ Some write
      → has_name of name (suc n) ≡ eq_by_cmp row_name_cmp name write.name
  test-is n write at =
      ap (λ (o : Option RowName). are_one o (Some name))
      (slice_get-map (λ (w : Write). w.name) ws n ∙ ap (option_map (λ (w : Write). w.name)) at)
      ∙ (eq_by_cmp_equiv row_name_cmp_total).symm write.name name

  step : (n g : ℕ) (write : Write) (now before : Option (List Cell)) (b : Bool)
      → slice_get ws n ≡ Some write → now ≡ row_or_before (at_number ws g) before
      → cond b (change_row write.change) now
      ≡ row_or_before (at_number ws (cond b (suc n) g)) before
  step n g write now before true at h =
      row_made write.change before ∙ ap
      (λ (o : Option Write). row_or_before (at_change_of o) before) (sym at)
  step n g write now before false at h = h

  pub last-write : (n : ℕ) → n ≤ length ws
      → get (after_writes (take n ws) start) name
      ≡ row_or_before (at_number ws (last_up_to n)) (get start name)
  last-write zero within = refl
  last-write (suc n) within =
      let w = element ws n (omega arith) in
      ap (λ (s : State). get s name) (after-one ws n w.0 start w.1)
      ∙ row_changed w.0.change w.0.name name (after_writes (take n ws) start)
      ∙ step n (last_up_to n) w.0 (get (after_writes (take n ws) start) name) (get start name)
      (eq_by_cmp row_name_cmp name w.0.name) w.1 (last-write n (omega arith))
      ∙ ap (λ (b : Bool). row_or_before (at_number ws (cond b (suc n) (last_up_to n)))
      (get start name)) (sym (test-is n w.0 w.1))

-- ---- the law

last-named : (names : List RowName) (row n : ℕ) (name : RowName) → name_at names row ≡ Some name
    → last_on_row names row n ≡ greatest_below (has_name names name) (suc n)
unfolding last_on_row are_on_one_row
last-named names row n name e =
    ap (λ (o : Option RowName). greatest_below (λ v. are_one (name_at names v) o) (n + 1)) e
    ∙ ap (greatest_below (has_name names name)) (let m : n + 1 ≡ suc n = omega arith in m)

none-named : (names : List RowName) (n : ℕ) (name : RowName)
    → ((w : ℕ) → IsWrite names w → name_at names w ≡ Some name → n < w)
    → greatest_below (has_name names name) (suc n) ≡ 0
none-named names n name later = dite (ℕ_discrete (greatest_below (has_name names name) (suc n)) 0)
    (λ e. e)
    (λ some.
    let at = named_from (name_at names (greatest_below (has_name names name) (suc n))) name
    (greatest-passes (has_name names name) (suc n) some) in
    let above = later (greatest_below (has_name names name) (suc n))
    (write_named names (greatest_below (has_name names name) (suc n)) name at) at in
    let below = greatest-not_above (has_name names name) n in
    absurd (omega arith))

row_is : (start : State) (txns : List Txn) (place : ℕ) (name : RowName)
    → get (state_after start txns place) name
    ≡ row_or_before
    (at_number (writes_of txns)
    (greatest_below (has_name (names_in txns) name) (suc (end_of txns place)))) (get start name)
unfolding names_in
row_is start txns place name =
    ap (λ (s : State). get s name) (state_is start txns place)
    ∙ last-write (writes_of txns) start name (end_of txns place)
    (let h = end-within txns place in let l = length-names_in txns in omega arith)

pub rows_are_of_last_writes : (start : State) (txns : List Txn) (place : ℕ)
    → RowsAreOfLastWrites start txns place
rows_are_of_last_writes start txns place = record {
  written = λ name row first name_is. row_is start txns place name
      ∙ ap (λ (w : ℕ). row_or_before (at_number (writes_of txns) w) (get start name))
      (sym (last-named (names_in txns) row (end_of txns place) name name_is));
  unwritten = λ name later. row_is start txns place name
      ∙ ap (λ (w : ℕ). row_or_before (at_number (writes_of txns) w) (get start name))
      (none-named (names_in txns) (end_of txns place) name later);
}
