-- The writes of a log by their numbers, which count from 1: rows, predecessors, ends and owners.
use Prim.Native.Nat.{zero, suc}
use Rattle.std.specs.Prelude.{◌≡◌, ◌≤◌, ◌+◌, ◌-◌, ◌%◌, ℕ, Bool, false, List, length, map, take}
use Rattle.std.specs.Prelude.{slice_get, nat_lt, Option, Some, None}
use Rattle.std.specs.List.{flat_map}
use Rattle.std.specs.Ordering.{eq_by_cmp, is_eq}
use Rattle.std.specs.Set.{distinct_count}
use Rattle.c5_rows.specs.Order.{row_name_cmp}
use Rattle.c5_rows.specs.declared.writes.RowName.{RowName}
use Rattle.c5_rows.specs.declared.writes.Write.{Write}
use Rattle.c5_rows.specs.declared.writes.Txn.{Txn}
use Rattle.c5_definitions.specs.Searches.{greatest_below, least_up_to}

-- the names of the rows that the transactions write, in the order of the writes
unfoldable pub names_in : List Txn → List RowName
names_in txns = map (λ (w : Write). w.name) (flat_map (λ (txn : Txn). txn.writes) txns)

-- the number of a write
pub record IsWrite (names : List RowName) (w : ℕ) : Type 0 where
  pub positive : 1 ≤ w
  pub within : w ≤ length names

-- ---- rows

-- the two are names of one row
abbrev pub is_same_name : RowName → RowName → Bool
is_same_name = eq_by_cmp row_name_cmp

-- the number of different rows that writes with these names write
abbrev pub row_count : List RowName → ℕ
row_count names = distinct_count is_same_name names

-- the name that write w has
abbrev pub name_at : List RowName → ℕ → Option RowName
name_at names zero = None
name_at names (suc i) = slice_get names i

-- both are there, and they are one name
abbrev pub are_one : Option RowName → Option RowName → Bool
are_one None other = false
are_one (Some a) None = false
are_one (Some a) (Some b) = is_eq (row_name_cmp a b)

-- writes v and w are on one row
unfoldable pub are_on_one_row : List RowName → ℕ → ℕ → Bool
are_on_one_row names v w = are_one (name_at names v) (name_at names w)

-- the number of w's row: the least number on it, which is that of its first write
unfoldable pub row_of : List RowName → ℕ → ℕ
row_of names w = least_up_to (λ v. are_on_one_row names v w) w

-- the greatest number up to n of a write on the row of this number, or 0
unfoldable pub last_on_row : List RowName → ℕ → ℕ → ℕ
last_on_row names row n = greatest_below (λ v. are_on_one_row names v row) (n + 1)

-- the predecessor of w: the greatest number below w on w's row, or 0
unfoldable pub predecessor_of : List RowName → ℕ → ℕ
predecessor_of names w = greatest_below (λ v. are_on_one_row names v w) w

-- w is the first write of its row
pub record IsFirstWrite (names : List RowName) (w : ℕ) : Type 0 where
  pub write : IsWrite names w
  pub first : row_of names w ≡ w

-- ---- places

-- the number of writes of the first p transactions
unfoldable pub end_of : List Txn → ℕ → ℕ
end_of txns p = length (flat_map (λ (txn : Txn). txn.writes) (take p txns))

-- the greatest place whose writes are all below the number x
unfoldable pub place_below : List Txn → ℕ → ℕ
place_below txns x = greatest_below (λ p. nat_lt (end_of txns p) x) (length txns + 1)

-- ---- owners

-- the worker that owns w: of n workers, i owns the numbers i, i + n, i + 2n and so on
unfoldable pub owner_of : ℕ → ℕ → ℕ
owner_of workers w = (w - 1) % workers + 1
