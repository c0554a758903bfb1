-- The writes of a body ascend by name.
use Rattle.std.proofs.Common.{◌≡◌, ◌&&◌, T, Bool, true, false, List, [], ◌∷◌, Option, Some, None}
use Rattle.std.proofs.Common.{map, refl, Ordering, Less, Equal, Greater}
use Rattle.std.specs.FinMap.{entries, entries_sorted, get, is_sorted}
use Rattle.std.specs.FinMap.Entries.{below_all}
use Rattle.std.specs.Ordering.{is_lt}
use Rattle.c5_rows.specs.Order.{row_name_cmp}
use Rattle.c5_rows.specs.State.{State}
use Rattle.c5_rows.specs.Writes.{IsAscending, IsBelowFirst}
use Rattle.c5_rows.specs.declared.writes.RowName.{RowName}
use Rattle.c5_rows.specs.declared.writes.Write.{Write}
use Rattle.c5_definitions.specs.declared.script.Statement.{Statement}
use Rattle.c5_definitions.specs.Eval.{BodySoFar, write_of, ending_of, eval}

-- a write of what the state has, for each name
abbrev writes_at : State → List (RowName × Unit {0}) → List Write
writes_at state es = map (λ name. write_of name (get state name)) (map (λ e. e.0) es)

first : (a b : Bool) → T (a && b) → T a
first true b h = tt
first false b h = h

second : (a b : Bool) → T (a && b) → T b
second true b h = h
second false b h = absurd h

less : (o : Ordering) → T (is_lt o) → o ≡ Less
less Less h = refl
less Equal h = absurd h
less Greater h = absurd h

below_first : (state : State) (name : RowName) (es : List (RowName × Unit {0}))
    → T (below_all row_name_cmp name es) → IsBelowFirst name (writes_at state es)
below_first state name [] below = tt
below_first state name (e ∷ es) below =
    less (row_name_cmp name e.0)
    (first (is_lt (row_name_cmp name e.0)) (below_all row_name_cmp name es) below)

entries_ascend : (state : State) (es : List (RowName × Unit {0})) → T (is_sorted row_name_cmp es)
    → IsAscending (writes_at state es)
entries_ascend state [] up = tt
entries_ascend state (e ∷ es) up = (
  below_first state e.0 es (first (below_all row_name_cmp e.0 es) (is_sorted row_name_cmp es) up),
  entries_ascend state es (second (below_all row_name_cmp e.0 es) (is_sorted row_name_cmp es) up),
)

ending_ascends : (end : Option BodySoFar) → IsAscending (ending_of end).writes
ending_ascends None = tt
ending_ascends (Some p) = entries_ascend p.state (entries p.noted) (entries_sorted p.noted)

-- whatever the body
pub eval-ascending : (body : List Statement) (state : State) → IsAscending (eval body state).writes
unfolding eval
eval-ascending body state = ending_ascends _
