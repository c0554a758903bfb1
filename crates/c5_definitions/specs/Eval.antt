-- What a body does on a state itself.
use Rattle.std.specs.Prelude.{Bool, true, false, List, [], ◌∷◌, map, Option, Some, None}
use Rattle.std.specs.FinMap.{FinMap, empty, get, insert, keys}
use Rattle.c5_rows.specs.declared.cells.Cell.{Cell}
use Rattle.c5_rows.specs.declared.writes.RowName.{RowName}
use Rattle.c5_rows.specs.declared.writes.Change.{Change}
use Rattle.c5_rows.specs.declared.writes.Change.TheVariants.{Put, Gone}
use Rattle.c5_rows.specs.declared.writes.Write.{Write}
use Rattle.c5_rows.specs.Order.{row_name_cmp}
use Rattle.c5_rows.specs.State.{State, after_change}
use Rattle.c5_definitions.specs.declared.script.Statement.{Statement}
use Rattle.c5_definitions.specs.Effects.{declines, keeps, sets, needed, effect_of}

-- a put of the row, or a gone if there is none
abbrev pub change_to : Option (List Cell) → Change
change_to (Some row) = Put row
change_to None = Gone

-- the write that makes a row this one
abbrev pub write_of : RowName → Option (List Cell) → Write
write_of name row = record { name = name; change = change_to row }

-- how a body ends: whether it declined, and its writes
pub record Ending : Type 0 where
  pub declined : Bool
  pub writes : List Write

-- the state so far, and the names of the rows that were set
pub record BodySoFar : Type 0 where
  pub state : State
  pub noted : FinMap row_name_cmp (Unit {0})

-- the row of a name that may be missing
abbrev pub row_needed : Option RowName → State → Option (List Cell)
row_needed None state = None
row_needed (Some name) state = get state name

-- a row is set, and its name is noted
abbrev pub set_row : RowName → Option (List Cell) → BodySoFar → BodySoFar
set_row name row p =
    record { state = after_change name (change_to row) p.state; noted = insert p.noted name tt }

-- one statement after the other; none if one of them declines
abbrev pub after_statements : List Statement → BodySoFar → Option BodySoFar
after_statements [] p = Some p
after_statements (statement ∷ statements) p =
    elim (effect_of statement (row_needed (needed statement) p.state)) [
      | declines ↦ None
      | keeps ↦ after_statements statements p
      | sets name row ↦ after_statements statements (set_row name row p)
    ]

-- no writes if a statement declined; else for each noted name, ascending, the row that the state
-- then has
abbrev pub ending_of : Option BodySoFar → Ending
ending_of None = record { declined = true; writes = [] }
ending_of (Some p) =
    record {
      declined = false;
      writes = map (λ name. write_of name (get p.state name))
          (keys p.noted);
    }

-- how a body ends on a state
unfoldable pub eval : List Statement → State → Ending
eval body state = ending_of (after_statements body (record { state = state; noted = empty }))
