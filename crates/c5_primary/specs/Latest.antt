-- The rows after transactions, found in the last of them that wrote each.
use Rattle.std.specs.Prelude.{◌≡◌, ℕ, List, [], ◌∷◌, Option, Some, None, MatchOption, cond}
use Rattle.std.specs.FinMap.{get}
use Rattle.std.specs.Map.{lookup}
use Rattle.std.specs.BTreeMap.{is_at}
use Rattle.std.specs.List.{slice_get}
use Rattle.c5_rows.specs.declared.cells.Cell.{Cell}
use Rattle.c5_rows.specs.declared.writes.RowName.{RowName}
use Rattle.c5_rows.specs.declared.writes.Change.{Change}
use Rattle.c5_rows.specs.declared.writes.Change.TheVariants.{Put, Gone}
use Rattle.c5_rows.specs.declared.writes.Write.{Write}
use Rattle.c5_rows.specs.declared.writes.Txn.{Txn}
use Rattle.c5_rows.specs.Order.{row_name_cmp}
use Rattle.c5_rows.specs.State.{State, after_txns}
use Rattle.c5_rows.specs.Writes.{change_of}

-- the row that a change leaves
abbrev pub row_kept : Option Change → Option (List Cell)
row_kept None = None
row_kept (Some (Put row)) = Some row
row_kept (Some Gone) = None

-- the place that is noted for a row
abbrev pub place_at : List (RowName × ℕ) → RowName → Option ℕ
place_at places name = lookup (is_at (row_name_cmp name)) places

-- what is noted for a row after these writes, made at a place
abbrev pub noted : List Write → ℕ → RowName → Option ℕ → Option ℕ
noted [] place name old = old
noted (write ∷ writes) place name old =
    noted writes place name (cond (is_at (row_name_cmp write.name) name) (Some place) old)

-- the row after the transactions is what the one at this place left; with no place, the start's
abbrev pub IsLeftAt : State → List Txn → RowName → Option ℕ → Type 0
IsLeftAt start txns name None = get (after_txns txns start) name ≡ get start name
IsLeftAt start txns name (Some place) =
    MatchOption (slice_get txns place) ⊥
    (λ txn. get (after_txns txns start) name ≡ row_kept (change_of name txn.writes))

-- the places lead to every row after the transactions
abbrev pub LeadsToRows : State → List Txn → List (RowName × ℕ) → Type 0
LeadsToRows start txns places = (name : RowName) → IsLeftAt start txns name (place_at places name)
