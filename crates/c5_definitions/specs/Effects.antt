-- What a statement of a transaction needs, and what it does to rows.
use Rattle.std.specs.Prelude.{ℕ, ℤ, pos, negsuc, ◌^◌, ◌+ℤ◌, Bool, List, Option, Some, None, nat_lt}
use Rattle.std.specs.Prelude.{int_lt, int_le, slice_get, slice_set, if◌then◌else◌}
use Rattle.std.specs.Ordering.{int_eq}
use Rattle.c5_rows.specs.declared.cells.Cell.{Cell}
use Rattle.c5_rows.specs.declared.cells.Cell.TheVariants.{Int, Txt}
use Rattle.c5_rows.specs.declared.writes.RowName.{RowName}
use Rattle.c5_definitions.specs.declared.script.Rel.{Rel}
use Rattle.c5_definitions.specs.declared.script.Rel.TheVariants.{Lt, Le, Eq, Ge, Gt}
use Rattle.c5_definitions.specs.declared.script.Statement.{Statement}
use Rattle.c5_definitions.specs.declared.script.Statement.TheVariants.{Put, Del, Need, Add, Copy}

-- the number of an Int cell
abbrev pub int_of_cell : Option Cell → Option ℤ
int_of_cell None = None
int_of_cell (Some (Int n)) = Some n
int_of_cell (Some (Txt bytes)) = None

-- the number in a column; none if there is no row, or no Int cell in the column
abbrev pub int_in_column : ℕ → Option (List Cell) → Option ℤ
int_in_column col None = None
int_in_column col (Some row) = int_of_cell (slice_get row col)

-- whether a number compares so with another
abbrev pub compares : Rel → ℤ → ℤ → Bool
compares Lt a b = int_lt a b
compares Le a b = int_le a b
compares Eq a b = int_eq a b
compares Ge a b = int_le b a
compares Gt a b = int_lt b a

-- a number of 64 bits with a sign
abbrev pub fits_i64 : ℤ → Bool
fits_i64 (pos n) = nat_lt n (2 ^ 63)
fits_i64 (negsuc n) = nat_lt n (2 ^ 63)

-- what a statement does: it declines, or changes nothing, or a row becomes this one, or absent
pub data Effect : Type 0 where
  declines : Effect
  keeps : Effect
  sets : RowName → Option (List Cell) → Effect

-- the row whose content a statement needs
abbrev pub needed : Statement → Option RowName
needed (Put name row) = None
needed (Del name) = None
needed (Need name col rel n) = Some name
needed (Add name col n) = Some name
needed (Copy from to) = Some from

-- declines unless there is a number that compares so with n
abbrev pub need_effect : Option ℤ → Rel → ℤ → Effect
need_effect None rel n = declines
need_effect (Some cell) rel n = if compares rel cell n then keeps else declines

-- declines if there is no number, or the sum isn't an i64
abbrev pub add_effect : RowName → ℕ → Option (List Cell) → Option ℤ → ℤ → Effect
add_effect name col None cell n = declines
add_effect name col (Some row) None n = declines
add_effect name col (Some row) (Some cell) n =
    if fits_i64 (cell +ℤ n) then sets name (Some (slice_set row col (Int (cell +ℤ n))))
    else declines

-- what a statement does if the row that it needs is this one
abbrev pub effect_of : Statement → Option (List Cell) → Effect
effect_of (Put name row) found = sets name (Some row)
effect_of (Del name) found = sets name None
effect_of (Need name col rel n) found = need_effect (int_in_column col found) rel n
effect_of (Add name col n) found = add_effect name col found (int_in_column col found) n
effect_of (Copy from to) found = sets to found
