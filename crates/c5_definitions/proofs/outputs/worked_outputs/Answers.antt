use Rattle.std.proofs.Common.{◌≡◌, ◌∙◌, ℕ, List, [], ◌∷◌, ◌++◌, map, Option, Some, None, true}
use Rattle.std.proofs.Common.{false, refl, sym, ap}
use Rattle.std.specs.Fmt.{digits}
use Rattle.std.specs.FinMap.{FinMap, empty, get, insert, entries, keys, put, get-insert, get-empty}
use Rattle.std.specs.FinMap.{entries-insert, len-entries, len-empty}
use Rattle.std.specs.Prelude.{pos, codes}
use Rattle.std.proofs.lemmas.List.{nil_from_length}
use Rattle.c5_rows.specs.Order.{row_name_cmp, row_name_cmp_total}
use Rattle.c5_rows.specs.State.{State}
use Rattle.c5_rows.specs.declared.answer.AnswerLine.TheVariants.{Found, Absent, Sum}
use Rattle.c5_rows.specs.declared.cells.Cell.{Cell}
use Rattle.c5_rows.specs.declared.cells.Cell.TheVariants.{Int}
use Rattle.c5_rows.specs.declared.writes.Txn.{Txn}
use Rattle.c5_definitions.specs.declared.script.Statement.TheVariants.{Put, Add}
use Rattle.c5_definitions.specs.Answers.{answer_of}
use Rattle.c5_definitions.specs.Eval.{Ending, eval, ending_of, set_row, write_of}
use Rattle.c5_definitions.specs.Effects.{declines, keeps, sets, effect_of}
use Rattle.c5_definitions.specs.Outputs.{no_rows, order_text, backup_text, clone_text}
use Rattle.c5_definitions.specs.SerialRun.{serial_txns}
use Rattle.c5_definitions.specs.WorkedOutputs.{row_a, read_a, sum_a, quiet_script, quiet_text}
use Rattle.c5_definitions.specs.WorkedOutputs.{busy_script, put_first_text, add_first_text}
use Rattle.c5_definitions.proofs.outputs.worked_outputs.Goals as goal

-- ---- maps with the row `a` alone

abbrev blank : (X : Type 0) → FinMap row_name_cmp X
blank X = empty

no_entries : (X : Type 0) → entries (blank X) ≡ []
no_entries X = nil_from_length (entries (blank X))
    (sym (len-entries (blank X)) ∙ len-empty row_name_cmp X)

one_entry : (X : Type 0) (x : X) → entries (insert (blank X) row_a x) ≡ (row_a, x) ∷ []
one_entry X x = entries-insert row_name_cmp_total (blank X) row_a x ∙ ap (put row_name_cmp row_a x)
    (no_entries X)

still_one_entry : (X : Type 0) (x y : X) → entries (insert (insert (blank X) row_a x) row_a y)
    ≡ (row_a, y) ∷ []
still_one_entry X x y = entries-insert row_name_cmp_total (insert (blank X) row_a x) row_a y ∙ ap
    (put row_name_cmp row_a y) (one_entry X x)

none_there : get no_rows row_a ≡ None
none_there = get-empty row_name_cmp row_a

found_there : (state : State) (row : List Cell) → get (insert state row_a row) row_a ≡ Some row
found_there state row = get-insert row_name_cmp_total state row_a row row_a

-- ---- the two bodies

abbrev ten : List Cell
ten = Int (pos 10) ∷ []

abbrev fifteen : List Cell
fifteen = Int (pos 15) ∷ []

abbrev writes : List Cell → Ending
writes row = record { declined = false; writes = write_of row_a (Some row) ∷ [] }

noted : keys (insert (blank (Unit {0})) row_a tt) ≡ row_a ∷ []
noted = ap (map (λ e. e.0)) (one_entry (Unit {0}) tt)

put-ends : (state : State) → eval (Put row_a ten ∷ []) state ≡ writes ten
unfolding eval
put-ends state = rw (noted, found_there state ten) refl

-- how the add ends if the row that it needs is this one
abbrev added : State → Option (List Cell) → Ending
added state row = ending_of (elim (effect_of (Add row_a 0 (pos 5)) row) [
  | declines ↦ None
  | keeps ↦ Some (record { state = state; noted = empty })
  | sets name new ↦ Some (set_row name new (record { state = state; noted = empty }))
])

add-is : (state : State) → eval (Add row_a 0 (pos 5) ∷ []) state ≡ added state (get state row_a)
unfolding eval
add-is state = refl

add-ends : (state : State) → get state row_a ≡ Some ten
    → eval (Add row_a 0 (pos 5) ∷ []) state ≡ writes fifteen
add-ends state there = add-is state ∙ ap (added state) there ∙ rw
    (noted, found_there state fifteen) refl

add-declines : (state : State) → get state row_a ≡ None
    → eval (Add row_a 0 (pos 5) ∷ []) state ≡ record { declined = true; writes = [] }
add-declines state none = add-is state ∙ ap (added state) none

abbrev txn_of : ℕ → ℕ → List Cell → Txn
txn_of script stamp row =
    record { script = script; stamp = stamp; writes = write_of row_a (Some row) ∷ [] }

abbrev put_first : List Txn
put_first = txn_of 0 1 ten ∷ txn_of 1 2 fifteen ∷ []

abbrev add_first : List Txn
add_first = record { script = 1; stamp = 1; writes = [] } ∷ txn_of 0 2 ten ∷ []

put_first-run : serial_txns busy_script.bodies no_rows (0 ∷ 1 ∷ []) ≡ put_first
put_first-run =
    rw (put-ends no_rows, add-ends (insert no_rows row_a ten) (found_there no_rows ten)) refl

add_first-run : serial_txns busy_script.bodies no_rows (1 ∷ 0 ∷ []) ≡ add_first
add_first-run = rw (add-declines no_rows none_there, put-ends no_rows) refl

-- ---- the replies

absent : (state : State) (read : ℕ) → get state row_a ≡ None
    → answer_of (read_a read) state ≡ Absent row_a ∷ []
unfolding answer_of
absent state read none = rw none refl

found : (state : State) (read : ℕ) (row : List Cell) → get state row_a ≡ Some row
    → answer_of (read_a read) state ≡ Found row_a row ∷ []
unfolding answer_of
found state read row some = rw some refl

summed : (state : State) (read : ℕ) → get state row_a ≡ Some fifteen
    → answer_of (sum_a read) state ≡ Sum (pos 15) ∷ []
unfolding answer_of
summed state read some = rw some refl

sum_of_none : (state : State) (read : ℕ) → get state row_a ≡ None
    → answer_of (sum_a read) state ≡ Sum (pos 0) ∷ []
unfolding answer_of
sum_of_none state read none = rw none refl

quiet-prints : backup_text quiet_script [] (0 ∷ [])
    ≡ codes "read 1 place 0 lag 0\nacct a -\nrows 0\n"
unfolding digits
quiet-prints = rw (absent no_rows 1 none_there, no_entries (List Cell)) refl

put_first-prints : backup_text busy_script put_first (2 ∷ 0 ∷ 1 ∷ [])
    ≡ codes "read 1 place 2 lag 0\nsum 15\nread 2 place 0 lag 2\nacct a -\n"
    ++ codes "read 2 place 1 lag 1\nacct a 10\nacct a 15\nrows 1\n"
unfolding digits
put_first-prints =
    rw (
      summed (insert (insert no_rows row_a ten) row_a fifteen) 1
          (found_there (insert no_rows row_a ten) fifteen),
      absent no_rows 2 none_there,
      found (insert no_rows row_a ten) 2 ten (found_there no_rows ten),
      still_one_entry (List Cell) ten fifteen,
    ) refl

add_first-prints : backup_text busy_script add_first (1 ∷ 1 ∷ 2 ∷ [])
    ≡ codes "read 1 place 1 lag 1\nsum 0\nread 2 place 1 lag 1\nacct a -\n"
    ++ codes "read 2 place 2 lag 0\nacct a 10\nacct a 10\nrows 1\n"
unfolding digits
add_first-prints =
    rw (
      sum_of_none no_rows 1 none_there,
      absent no_rows 2 none_there,
      found (insert no_rows row_a ten) 2 ten (found_there no_rows ten),
      one_entry (List Cell) ten,
    ) refl

clone-quiet : clone_text quiet_script [] (0 ∷ []) ≡ quiet_text
clone-quiet = ap (λ (text : List ℕ). order_text [] ++ text) quiet-prints

clone-put_first : clone_text busy_script (0 ∷ 1 ∷ []) (2 ∷ 0 ∷ 1 ∷ []) ≡ put_first_text
unfolding digits
clone-put_first = ap (λ (text : List ℕ). order_text (0 ∷ 1 ∷ []) ++ text)
    (ap (λ (txns : List Txn). backup_text busy_script txns (2 ∷ 0 ∷ 1 ∷ [])) put_first-run ∙
    put_first-prints)

clone-add_first : clone_text busy_script (1 ∷ 0 ∷ []) (1 ∷ 1 ∷ 2 ∷ []) ≡ add_first_text
unfolding digits
clone-add_first = ap (λ (text : List ℕ). order_text (1 ∷ 0 ∷ []) ++ text)
    (ap (λ (txns : List Txn). backup_text busy_script txns (1 ∷ 1 ∷ 2 ∷ [])) add_first-run ∙
    add_first-prints)

pub returns : goal.returns
returns c = record { quiet = clone-quiet; put_first = clone-put_first; add_first = clone-add_first }
