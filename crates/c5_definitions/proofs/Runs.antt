-- Bodies of one statement and of two, on the rows of the worked examples.
use Rattle.std.proofs.Common.{◌≡◌, ◌∙◌, Bool, List, [], ◌∷◌, map, Option, Some, None, cond}
use Rattle.std.proofs.Common.{refl, ap, sym}
use Rattle.std.specs.Prelude.{pos, negsuc, ◌^◌, ◌-◌, codes}
use Rattle.std.specs.FinMap.{empty, get, insert, entries, keys, put, get-insert}
use Rattle.std.specs.FinMap.{get-remove, get-empty, len-entries, len-empty, entries-insert}
use Rattle.std.specs.Ordering.{eq_by_cmp}
use Rattle.std.specs.Cmp.{eq_by_cmp_equiv}
use Rattle.std.proofs.lemmas.List.{nil_from_length}
use Rattle.c5_rows.specs.declared.cells.Cell.{Cell}
use Rattle.c5_rows.specs.declared.writes.RowName.{RowName}
use Rattle.c5_rows.specs.Order.{row_name_cmp, row_name_cmp_total}
use Rattle.c5_rows.specs.State.{State, after_change}
use Rattle.c5_definitions.specs.declared.script.Statement.{Statement}
use Rattle.c5_definitions.specs.Effects.{Effect, declines, keeps, sets, needed, effect_of}
use Rattle.c5_definitions.specs.Eval.{Ending, BodySoFar, change_to, write_of, row_needed, set_row}
use Rattle.c5_definitions.specs.Eval.{after_statements, ending_of, eval}
use Rattle.c5_definitions.specs.WorkedRuns.{at, int_row, start, declined, wrote}

-- what the rows are
abbrev pub row_at_start : RowName → Option (List Cell)
row_at_start q =
    cond (eq_by_cmp row_name_cmp q (at (codes "m"))) (Some (int_row (pos (2 ^ 63 - 1))))
    (cond (eq_by_cmp row_name_cmp q (at (codes "b"))) (Some (int_row (negsuc 2)))
    (cond (eq_by_cmp row_name_cmp q (at (codes "a"))) (Some (int_row (pos 10))) None))

pub got : (q : RowName) → get start q ≡ row_at_start q
got q =
    get-insert row_name_cmp_total _ (at (codes "m")) (int_row (pos (2 ^ 63 - 1))) q
    ∙ ap (cond (eq_by_cmp row_name_cmp q (at (codes "m"))) (Some (int_row (pos (2 ^ 63 - 1)))))
    (get-insert row_name_cmp_total _ (at (codes "b")) (int_row (negsuc 2)) q
    ∙ ap (cond (eq_by_cmp row_name_cmp q (at (codes "b"))) (Some (int_row (negsuc 2))))
    (get-insert row_name_cmp_total (empty {R = row_name_cmp}) (at (codes "a")) (int_row (pos 10)) q
    ∙ ap (cond (eq_by_cmp row_name_cmp q (at (codes "a"))) (Some (int_row (pos 10))))
    (get-empty row_name_cmp q)))

-- ---- the names that are noted

no_entries : entries (empty {X = Unit {0}} {R = row_name_cmp}) ≡ []
no_entries = nil_from_length (entries (empty {R = row_name_cmp}))
    (sym (len-entries (empty {R = row_name_cmp})) ∙ len-empty row_name_cmp (Unit {0}))

abbrev names_of : List (RowName × Unit {0}) → List RowName
names_of es = map (λ e. e.0) es

pub no_names : keys (empty {X = Unit {0}} {R = row_name_cmp}) ≡ []
no_names = ap (map (λ (e : RowName × Unit {0}). e.0)) no_entries

pub one_name : (name : RowName) → keys (insert (empty {X = Unit {0}} {R = row_name_cmp}) name tt)
    ≡ name ∷ []
one_name name = ap (map (λ (e : RowName × Unit {0}). e.0))
    (entries-insert row_name_cmp_total (empty {R = row_name_cmp}) name tt ∙ ap
    (put row_name_cmp name tt) no_entries)

-- ---- one statement

abbrev nothing_done : State → BodySoFar
nothing_done state = record { state = state; noted = empty }

pub none_set : (state : State) → ending_of (Some (nothing_done state)) ≡ wrote []
none_set state =
    ap (λ (names : List RowName). wrote
    (map (λ (name : RowName). write_of name (get state name)) names)) no_names

pub set_is : (state : State) (name : RowName) (row : Option (List Cell))
    → get (after_change name (change_to row) state) name ≡ row
set_is state name (Some row) =
    get-insert row_name_cmp_total state name row name
    ∙ ap (λ (b : Bool). cond b (Some row) (get state name))
    ((eq_by_cmp_equiv row_name_cmp_total).refl name)
set_is state name None =
    get-remove row_name_cmp_total state name name
    ∙ ap (λ (b : Bool). cond b None (get state name))
    ((eq_by_cmp_equiv row_name_cmp_total).refl name)

pub one_set : (state : State) (name : RowName) (row : Option (List Cell))
    → ending_of (Some (set_row name row (nothing_done state))) ≡ wrote (write_of name row ∷ [])
one_set state name row =
    ap (λ (names : List RowName). wrote
    (map (λ (n : RowName). write_of n (get (after_change name (change_to row) state) n)) names))
    (one_name name)
    ∙ ap (λ (r : Option (List Cell)). wrote (write_of name r ∷ [])) (set_is state name row)

-- how a body of one statement ends, by its effect
abbrev pub ending_by : Effect → Ending
ending_by declines = declined
ending_by keeps = wrote []
ending_by (sets name row) = wrote (write_of name row ∷ [])

by_effect : (state : State) (effect : Effect)
    → ending_of
    (elim effect [
      | declines ↦ None
      | keeps ↦ Some (nothing_done state)
      | sets name row ↦ Some
          (set_row name row (nothing_done state))
    ]) ≡ ending_by effect
by_effect state declines = refl
by_effect state keeps = none_set state
by_effect state (sets name row) = one_set state name row

pub single : (statement : Statement) (state : State) (found : Option (List Cell))
    → row_needed (needed statement) state ≡ found
    → eval (statement ∷ []) state ≡ ending_by (effect_of statement found)
unfolding eval
single statement state found is =
    by_effect state (effect_of statement (row_needed (needed statement) state)) ∙ ap
    (λ (f : Option (List Cell)). ending_by (effect_of statement f)) is

pub nothing : (state : State) → eval [] state ≡ wrote []
unfolding eval
nothing state = none_set state

-- ---- two statements

two_names : (a b : RowName)
    → keys (insert (insert (empty {X = Unit {0}} {R = row_name_cmp}) a tt) b tt)
    ≡ names_of (put row_name_cmp b tt ((a, tt) ∷ []))
two_names a b = ap names_of
    (entries-insert row_name_cmp_total (insert (empty {R = row_name_cmp}) a tt) b tt
    ∙ ap (put row_name_cmp b tt)
    (entries-insert row_name_cmp_total (empty {R = row_name_cmp}) a tt
    ∙ ap (put row_name_cmp a tt) no_entries))

-- the rows `a` and then `b` are set
abbrev both_set : State → RowName → Option (List Cell) → RowName → Option (List Cell) → State
both_set state a row b other = after_change b (change_to other) (after_change a (change_to row) state)

pub two_set : (state : State) (a : RowName) (row : Option (List Cell)) (b : RowName)
    (other : Option (List Cell))
    → ending_of (Some (set_row b other (set_row a row (nothing_done state))))
    ≡ wrote (map (λ (n : RowName). write_of n (get (both_set state a row b other) n))
    (names_of (put row_name_cmp b tt ((a, tt) ∷ []))))
two_set state a row b other =
    ap (λ (names : List RowName). wrote
    (map (λ (n : RowName). write_of n (get (both_set state a row b other) n)) names))
    (two_names a b)

-- how a body ends whose last statement has this effect
abbrev pub ending_after : BodySoFar → Effect → Ending
ending_after p effect =
    ending_of
    (elim effect [
      | declines ↦ None
      | keeps ↦ Some p
      | sets name row ↦ Some
          (set_row name row p)
    ])

-- the second of two statements, after a first that set a row
pub second : (statement : Statement) (state : State) (name : RowName) (row : Option (List Cell))
    (found : Option (List Cell))
    → row_needed (needed statement) (after_change name (change_to row) state) ≡ found
    → ending_of (after_statements (statement ∷ []) (set_row name row (nothing_done state)))
    ≡ ending_after (set_row name row (nothing_done state)) (effect_of statement found)
second statement state name row found is =
    ap (λ (f : Option (List Cell)).
    ending_after (set_row name row (nothing_done state)) (effect_of statement f)) is
