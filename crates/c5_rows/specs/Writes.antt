-- Lists of writes that ascend by name.
use Rattle.std.specs.Prelude.{◌≡◌, List, [], ◌∷◌, Option, Some, None, if◌then◌else◌}
use Rattle.std.specs.Ordering.{is_eq}
use Rattle.std.specs.declared.cmp.Ordering.TheVariants.{Less}
use Rattle.std.specs.FinMap.Entries.{by_order}
use Rattle.c5_rows.specs.declared.writes.RowName.{RowName}
use Rattle.c5_rows.specs.declared.writes.Change.{Change}
use Rattle.c5_rows.specs.declared.writes.Write.{Write}
use Rattle.c5_rows.specs.Order.{row_name_cmp}
use Rattle.c5_rows.specs.Ascending.{IsBelowFirstBy, IsAscendingBy}

-- the first of two names comes before the other
abbrev pub IsNameBelow : RowName → RowName → Type 0
IsNameBelow a b = row_name_cmp a b ≡ Less

-- the first of the writes, if there is one, has a greater name
abbrev pub IsBelowFirst : RowName → List Write → Type 0
IsBelowFirst = IsBelowFirstBy IsNameBelow (λ write. write.name)

-- each name is above the one before it
abbrev pub IsAscending : List Write → Type 0
IsAscending = IsAscendingBy IsNameBelow (λ write. write.name)

-- the change of the row of this name
abbrev pub change_of : RowName → List Write → Option Change
change_of name [] = None
change_of name (write ∷ writes) = if is_eq (row_name_cmp name write.name) then Some write.change
    else change_of name writes

-- a write in its place among others that ascend; it replaces one of its name
abbrev pub put_write : Write → List Write → List Write
put_write new [] = new ∷ []
put_write new (write ∷ writes) =
    by_order (row_name_cmp new.name write.name) (new ∷ write ∷ writes) (new ∷ writes)
    (write ∷ put_write new writes)
