-- A body makes at most one write for each statement that writes.
use Rattle.std.proofs.Common.{◌≡◌, ◌≤◌, ◌+◌, ◌∙◌, ◌+ℤ◌, ℕ, ℤ, Bool, true, false, cond, List, []}
use Rattle.std.proofs.Common.{◌∷◌, Option, Some, None, length, refl, sym, subst, arith}
use Rattle.std.specs.Prelude.{slice_set}
use Rattle.std.specs.FinMap as map_of
use Rattle.std.specs.List.{filter_map, cons_option}
use Rattle.std.proofs.lemmas.List.{length-map}
use Rattle.c5_rows.specs.Order.{row_name_cmp, row_name_cmp_total}
use Rattle.c5_rows.specs.State.{State}
use Rattle.c5_rows.specs.declared.cells.Cell.{Cell}
use Rattle.c5_rows.specs.declared.cells.Cell.TheVariants.{Int}
use Rattle.c5_rows.specs.declared.writes.RowName.{RowName}
use Rattle.c5_definitions.specs.declared.script.Statement.{Statement}
use Rattle.c5_definitions.specs.declared.script.Statement.TheVariants.{Put, Del, Need, Add, Copy}
use Rattle.c5_definitions.specs.declared.script.Rel.{Rel}
use Rattle.c5_definitions.specs.Effects.{Effect, declines, keeps, sets, needed, effect_of}
use Rattle.c5_definitions.specs.Effects.{int_in_column, need_effect, add_effect, compares, fits_i64}
use Rattle.c5_definitions.specs.Eval.{BodySoFar, write_of, row_needed, set_row, after_statements}
use Rattle.c5_definitions.specs.Eval.{ending_of, eval}
use Rattle.c5_definitions.specs.Limits.{written_name}

-- a row is set by a statement that writes alone
abbrev pub SetsWritten : Option RowName → Effect → Type 0
SetsWritten written declines = Unit {0}
SetsWritten written keeps = Unit {0}
SetsWritten written (sets name found) = written ≡ Some name

need_sets : (cell : Option ℤ) (rel : Rel) (n : ℤ) → SetsWritten None (need_effect cell rel n)
need_sets None rel n = tt
need_sets (Some cell) rel n = by (compares rel cell n)
  where
    by : (b : Bool) → SetsWritten None (cond b keeps declines)
    by true = tt
    by false = tt

add_sets : (name : RowName) (col : ℕ) (found : Option (List Cell)) (cell : Option ℤ) (n : ℤ)
    → SetsWritten (Some name) (add_effect name col found cell n)
add_sets name col None cell n = tt
add_sets name col (Some row) None n = tt
add_sets name col (Some row) (Some cell) n =
    by (fits_i64 (cell +ℤ n)) (Some (slice_set row col (Int (cell +ℤ n))))
  where
    by : (b : Bool) (found : Option (List Cell))
        → SetsWritten (Some name) (cond b (sets name found) declines)
    by true found = refl
    by false found = tt

pub effect_sets : (statement : Statement) (found : Option (List Cell))
    → SetsWritten (written_name statement) (effect_of statement found)
effect_sets (Put name row) found = refl
effect_sets (Del name) found = refl
effect_sets (Need name col rel n) found = need_sets (int_in_column col found) rel n
effect_sets (Add name col n) found = add_sets name col found (int_in_column col found) n
effect_sets (Copy from to) found = refl

-- ---- names that are noted

abbrev HasAtMost : ℕ → Option BodySoFar → Type 0
HasAtMost most None = Unit {0}
HasAtMost most (Some p) = map_of.len p.noted ≤ most

one_noted : (p : BodySoFar) (name : RowName)
    → map_of.len (map_of.insert p.noted name tt) ≤ map_of.len p.noted + 1
one_noted p name = by (map_of.contains_key p.noted name)
    (map_of.len-insert row_name_cmp_total p.noted name tt)
  where
    by : (b : Bool) → map_of.len (map_of.insert p.noted name tt)
        ≡ cond b (map_of.len p.noted) (map_of.len p.noted + 1)
        → map_of.len (map_of.insert p.noted name tt) ≤ map_of.len p.noted + 1
    by true e = omega arith
    by false e = omega arith

more : (end : Option BodySoFar) (a b : ℕ) → a ≤ b → HasAtMost a end → HasAtMost b end
more None a b le few = tt
more (Some p) a b le few = omega arith

abbrev IsMissing : Option RowName → Type 0
IsMissing None = Unit {0}
IsMissing (Some name) = ⊥

pub none_some : (name : RowName) → None ≡ Some name → ⊥
none_some name e = subst IsMissing e tt

items_len : (p : BodySoFar) → length (map_of.keys p.noted) ≡ map_of.len p.noted
items_len p = length-map (map_of.entries p.noted) (λ (e : RowName × Unit {0}). e.0) ∙ sym
    (map_of.len-entries p.noted)

run_count : (body : List Statement) (p : BodySoFar)
    → HasAtMost (map_of.len p.noted + length (filter_map written_name body))
    (after_statements body p)
run_count [] p = omega arith
run_count (statement ∷ statements) p =
    by (λ q. run_count statements q) (written_name statement)
    (effect_of statement (row_needed (needed statement) p.state))
    (effect_sets statement (row_needed (needed statement) p.state))
  where
    by : ((q : BodySoFar) → HasAtMost
        (map_of.len q.noted + length (filter_map written_name statements))
        (after_statements statements q)) → (written : Option RowName) (effect : Effect)
        → SetsWritten written effect
        → HasAtMost
        (map_of.len p.noted + length (cons_option written (filter_map written_name statements)))
        (elim effect [
          | declines ↦ None
          | keeps ↦ after_statements statements p
          | sets name row ↦
              after_statements statements (set_row name row p)
        ])
    by rest written declines e = tt
    by rest None keeps e = rest p
    by rest (Some other) keeps e =
        more (after_statements statements p)
        (map_of.len p.noted + length (filter_map written_name statements)) _ (omega arith) (rest p)
    by rest None (sets name found) e = absurd (none_some name e)
    by rest (Some other) (sets name found) e =
        let one = one_noted p name in
        more (after_statements statements (set_row name found p))
        (map_of.len (map_of.insert p.noted name tt)
        + length (filter_map written_name statements)) _ (omega arith)
        (rest (set_row name found p))

ending_count : (end : Option BodySoFar) (most : ℕ) → HasAtMost most end
    → length (ending_of end).writes ≤ most
ending_count None most few = omega arith
ending_count (Some p) most few = let n =
    length-map (map_of.keys p.noted) (λ name. write_of name (map_of.get p.state name)) in
    omega (arith, n, items_len p)

-- at most one write for each statement that writes
pub eval-count : (body : List Statement) (state : State)
    → length (eval body state).writes ≤ length (filter_map written_name body)
unfolding eval
eval-count body state =
    let few = run_count body (record { state = state; noted = map_of.empty }) in
    let none = map_of.len-empty row_name_cmp (Unit {0}) in
    ending_count (after_statements body (record { state = state; noted = map_of.empty }))
    (length (filter_map written_name body))
    (more (after_statements body (record { state = state; noted = map_of.empty })) _ _
    (omega arith) few)
