-- A body writes only rows that its statements name.
use Rattle.std.proofs.Common.{◌≡◌, ◌∙◌, Bool, true, false, ◌||◌, List, [], ◌∷◌, Option, Some, None}
use Rattle.std.proofs.Common.{map, refl, ap, sym, subst}
use Rattle.std.proofs.lemmas.Bool.{false≢true}
use Rattle.std.specs.Prelude.{is_some}
use Rattle.std.specs.FinMap as map_of
use Rattle.std.specs.List.{AllByRecursion, filter_map, cons_option, list_any}
use Rattle.std.specs.Ordering.{eq_by_cmp}
use Rattle.std.specs.Cmp.{eq_by_cmp_equiv}
use Rattle.c5_rows.specs.Order.{row_name_cmp, row_name_cmp_total}
use Rattle.c5_rows.specs.State.{State}
use Rattle.c5_rows.specs.declared.cells.Cell.{Cell}
use Rattle.c5_rows.specs.declared.writes.RowName.{RowName}
use Rattle.c5_definitions.specs.declared.script.Statement.{Statement}
use Rattle.c5_definitions.specs.Effects.{Effect, declines, keeps, sets, needed, effect_of}
use Rattle.c5_definitions.specs.Eval.{BodySoFar, write_of, row_needed, set_row, after_statements}
use Rattle.c5_definitions.specs.Eval.{ending_of, eval}
use Rattle.c5_definitions.specs.Limits.{written_name}
use Rattle.c5_primary.proofs.EvalCounts.{SetsWritten, effect_sets, none_some}
use Rattle.c5_primary.proofs.EvalFits.{same_name, contains-insert, or_true}

-- every row that was set has this property
abbrev AllSet : (RowName → Type 0) → BodySoFar → Type 0
AllSet P p = (name : RowName) → map_of.contains_key p.noted name ≡ true → P name

abbrev AllSetAtEnd : (RowName → Type 0) → Option BodySoFar → Type 0
AllSetAtEnd P None = Unit {0}
AllSetAtEnd P (Some p) = AllSet P p

abbrev IsOf : (RowName → Type 0) → Option RowName → Type 0
IsOf P None = Unit {0}
IsOf P (Some name) = P name

one_of_two : (P : RowName → Type 0) (name q : RowName) (b c : Bool)
    → eq_by_cmp row_name_cmp q name ≡ b → P name → (c ≡ true → P q) → (b || c) ≡ true → P q
one_of_two P name q true c tie is was h = subst P (sym (same_name q name tie)) is
one_of_two P name q false c tie is was h = was h

one_more_set : (P : RowName → Type 0) (name : RowName) (found : Option (List Cell)) (p : BodySoFar)
    → P name → AllSet P p → AllSet P (set_row name found p)
one_more_set P name found p is so_far =
    λ (q : RowName) (h : map_of.contains_key (map_of.insert p.noted name tt) q ≡ true).
    one_of_two P name q (eq_by_cmp row_name_cmp q name) (map_of.contains_key p.noted q) refl is
    (so_far q) (sym (contains-insert p.noted name q) ∙ h)

run-names : (P : RowName → Type 0) (body : List Statement) (p : BodySoFar)
    → AllByRecursion P (filter_map written_name body) → AllSet P p
    → AllSetAtEnd P (after_statements body p)
run-names P [] p all so_far = so_far
run-names P (statement ∷ statements) p all so_far =
    by (λ q them q_all. run-names P statements q them q_all) (written_name statement)
    (effect_of statement (row_needed (needed statement) p.state))
    (effect_sets statement (row_needed (needed statement) p.state)) all
  where
    by : ((q : BodySoFar) → AllByRecursion P (filter_map written_name statements) → AllSet P q
        → AllSetAtEnd P (after_statements statements q))
        → (written : Option RowName) (effect : Effect) → SetsWritten written effect
        → AllByRecursion P (cons_option written (filter_map written_name statements))
        → AllSetAtEnd P
        (elim effect [
          | declines ↦ None
          | keeps ↦ after_statements statements p
          | sets name row ↦
              after_statements statements (set_row name row p)
        ])
    by rest written declines e them = tt
    by rest None keeps e them = rest p them so_far
    by rest (Some other) keeps e them = rest p them.1 so_far
    by rest None (sets name found) e them = absurd (none_some name e)
    by rest (Some other) (sets name found) e them =
        rest (set_row name found p) them.1
        (one_more_set P name found p (subst (IsOf P) e them.0) so_far)

writes-names : (P : RowName → Type 0) (state : State) (ks : List RowName)
    → ((q : RowName) → list_any (eq_by_cmp row_name_cmp q) ks ≡ true → P q)
    → AllByRecursion P
    (map (λ write. write.name) (map (λ name. write_of name (map_of.get state name)) ks))
writes-names P state [] each = tt
writes-names P state (k ∷ ks) each = (
  each k (ap (λ (b : Bool). b || list_any (eq_by_cmp row_name_cmp k) ks)
      ((eq_by_cmp_equiv row_name_cmp_total).refl k)),
  writes-names P state ks
      (λ (q : RowName) (h : list_any (eq_by_cmp row_name_cmp q) ks ≡ true). each q
      (ap (λ (b : Bool). eq_by_cmp row_name_cmp q k || b) h ∙ or_true
      (eq_by_cmp row_name_cmp q k))),
)

ending-names : (P : RowName → Type 0) (end : Option BodySoFar) → AllSetAtEnd P end
    → AllByRecursion P (map (λ write. write.name) (ending_of end).writes)
ending-names P None all = tt
ending-names P (Some p) all = writes-names P p.state (map_of.keys p.noted)
    (λ (q : RowName) (h : list_any (eq_by_cmp row_name_cmp q) (map_of.keys p.noted) ≡ true). all q
    (map_of.contains_key-keys p.noted q ∙ h))

none_set : (P : RowName → Type 0) (state : State)
    → AllSet P (record { state = state; noted = map_of.empty })
none_set P state = λ (name : RowName)
    (h : map_of.contains_key (map_of.empty {X = Unit {0}} {R = row_name_cmp}) name ≡ true). absurd
    (false≢true (sym (ap is_some (map_of.get-empty row_name_cmp name)) ∙ h))

-- the rows that a body writes are named by its statements
pub eval-names : (P : RowName → Type 0) (body : List Statement) (state : State)
    → AllByRecursion P (filter_map written_name body)
    → AllByRecursion P (map (λ write. write.name) (eval body state).writes)
unfolding eval
eval-names P body state all =
    ending-names P (after_statements body (record { state = state; noted = map_of.empty }))
    (run-names P body (record { state = state; noted = map_of.empty }) all (none_set P state))
