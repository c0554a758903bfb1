-- The writes of a body leave the state that its statements left.
use Rattle.std.proofs.Common.{◌≡◌, ◌||◌, Bool, true, false, cond, List, [], ◌∷◌, map, Option, Some}
use Rattle.std.proofs.Common.{None, is_some}
use Rattle.std.proofs.Common.{refl, sym, ap, ◌∙◌, true≢false}
use Rattle.std.specs.FinMap.{get, keys, contains_key, get-insert, get-remove, get_tied, same_map}
use Rattle.std.specs.FinMap.{contains_key-keys}
use Rattle.std.specs.List.{list_any}
use Rattle.std.specs.Ordering.{eq_by_cmp}
use Rattle.std.specs.Cmp.{Equal-is}
use Rattle.c5_rows.specs.declared.cells.Cell.{Cell}
use Rattle.c5_rows.specs.declared.writes.RowName.{RowName}
use Rattle.c5_rows.specs.Order.{row_name_cmp, row_name_cmp_total, row_name_cmp_exact}
use Rattle.c5_rows.specs.State.{State, after_change, after_writes}
use Rattle.c5_definitions.specs.Eval.{BodySoFar, change_to, write_of, set_row}

abbrev is_same : RowName → RowName → Bool
is_same q name = eq_by_cmp row_name_cmp q name

get-change : (name : RowName) (row : Option (List Cell)) (state : State) (q : RowName)
    → get (after_change name (change_to row) state) q ≡ cond (is_same q name) row (get state q)
get-change name (Some row) state q = get-insert row_name_cmp_total state name row q
get-change name None state q = get-remove row_name_cmp_total state name q

-- if the names are one, so are the rows
own-row : (s : State) (q name : RowName) (b : Bool) (other : Option (List Cell))
    → is_same q name ≡ b
    → cond b (get s name) other ≡ cond b (get s q) other
own-row s q name true other is =
    get_tied row_name_cmp_total s q name ((Equal-is (row_name_cmp q name)).0 is)
own-row s q name false other is = refl

get-own : (s : State) (name : RowName) (state : State) (q : RowName)
    → get (after_change name (change_to (get s name)) state) q
    ≡ cond (is_same q name) (get s q) (get state q)
get-own s name state q =
    get-change name (get s name) state q ∙ own-row s q name (is_same q name) (get state q) refl

either : {X : Type 0} (b c : Bool) (x y : X) → cond c x (cond b x y) ≡ cond (b || c) x y
either true true x y = refl
either true false x y = refl
either false c x y = refl

get-after : (s : State) (names : List RowName) (state : State) (q : RowName)
    → get (after_writes (map (λ name. write_of name (get s name)) names) state) q
    ≡ cond (list_any (is_same q) names) (get s q) (get state q)
get-after s [] state q = refl
get-after s (name ∷ names) state q =
    get-after s names (after_change name (change_to (get s name)) state) q
    ∙ ap (cond (list_any (is_same q) names) (get s q)) (get-own s name state q)
    ∙ either (is_same q name) (list_any (is_same q) names) (get s q) (get state q)

-- rows whose names aren't noted are those of the start
pub record Kept (start : State) (p : BodySoFar) : Type 0 where
  pub others : (q : RowName) → contains_key p.noted q ≡ false → get p.state q ≡ get start q

not-noted : (b : Bool) (noted : Option (Unit {0})) → is_some (cond b (Some tt) noted) ≡ false
    → (b ≡ false) × (is_some noted ≡ false)
not-noted true noted none = absurd (true≢false none)
not-noted false noted none = (refl, none)

pub kept-set : (start : State) (p : BodySoFar) (name : RowName) (row : Option (List Cell))
    → Kept start p → Kept start (set_row name row p)
kept-set start p name row is = record {
  others = λ q none.
      let apart : (is_same q name ≡ false) × (contains_key p.noted q ≡ false) =
      not-noted (is_same q name) (get p.noted q)
      (sym (ap is_some (get-insert row_name_cmp_total p.noted name tt q)) ∙ none) in
      get-change name row p.state q
      ∙ ap (λ b. cond b row (get p.state q)) apart.0
      ∙ is.others q apart.1;
}

-- noted or not, the row is that of the state
noted-or-not : (start : State) (p : BodySoFar) (q : RowName) (b : Bool) → Kept start p
    → contains_key p.noted q ≡ b → cond b (get p.state q) (get start q) ≡ get p.state q
noted-or-not start p q true is e = refl
noted-or-not start p q false is e = sym (is.others q e)

pub writes-leave : (start : State) (p : BodySoFar) → Kept start p
    → after_writes (map (λ name. write_of name (get p.state name)) (keys p.noted)) start ≡ p.state
writes-leave start p is = same_map row_name_cmp_total row_name_cmp_exact _ _ (λ q.
    get-after p.state (keys p.noted) start q
    ∙ noted-or-not start p q (list_any (is_same q) (keys p.noted)) is (contains_key-keys p.noted q))
