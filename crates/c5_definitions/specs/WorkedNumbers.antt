-- Rows, predecessors and slots that were worked by hand.
use Rattle.std.specs.Prelude.{◌≡◌, ℕ, List, [], ◌∷◌, map, codes}
use Rattle.c5_rows.specs.declared.writes.RowName.{RowName}
use Rattle.c5_rows.specs.declared.writes.Change.TheVariants.{Gone}
use Rattle.c5_rows.specs.declared.writes.Txn.{Txn}
use Rattle.c5_definitions.specs.WriteNumbers.{names_in, row_of, predecessor_of, last_on_row, end_of}
use Rattle.c5_definitions.specs.WriteNumbers.{place_below, owner_of}
use Rattle.c5_definitions.specs.RowIndex.{bucket_count, fnv_1a, start_of, first_in_bucket}

-- the row of table 0 with this key
abbrev pub row_with_key : List ℕ → RowName
row_with_key key = record { table = 0; key = key }

-- a transaction that deletes the rows of these keys
abbrev pub deleting : ℕ → List (List ℕ) → Txn
deleting stamp keys = record {
  script = 0;
  stamp = stamp;
  writes = map (λ key. record { name = row_with_key key; change = Gone }) keys;
}

-- three writes of one key, in three transactions
abbrev pub one_key : List Txn
one_key = deleting 1 (codes "a" ∷ []) ∷ deleting 2 (codes "a" ∷ []) ∷ deleting 3 (codes "a" ∷ [])
    ∷ []

-- `a` and `c`, nothing, then `b` and `c`: writes 1 and 2, none, 3 and 4
abbrev pub two_by_two : List Txn
two_by_two = deleting 1 (codes "a" ∷ codes "c" ∷ []) ∷ deleting 2 []
    ∷ deleting 3 (codes "b" ∷ codes "c" ∷ []) ∷ []

abbrev pub names_of_one_key : List RowName
names_of_one_key = names_in one_key

abbrev pub names_two_by_two : List RowName
names_two_by_two = names_in two_by_two

-- one key in two tables: two rows
abbrev pub two_table_names : List RowName
two_table_names = record { table = 0; key = codes "a" } ∷ record { table = 1; key = codes "a" } ∷ []

-- what was worked by hand of the logs
pub record AreNumbered : Type 0 where
  pub rows_of_one_key : map (row_of names_of_one_key) (1 ∷ 2 ∷ 3 ∷ []) ≡ 1 ∷ 1 ∷ 1 ∷ []
  pub predecessors_of_one_key : map (predecessor_of names_of_one_key) (1 ∷ 2 ∷ 3 ∷ [])
      ≡ 0 ∷ 1 ∷ 2 ∷ []
  pub rows : map (row_of names_two_by_two) (1 ∷ 2 ∷ 3 ∷ 4 ∷ []) ≡ 1 ∷ 2 ∷ 3 ∷ 2 ∷ []
  pub predecessors : map (predecessor_of names_two_by_two) (1 ∷ 2 ∷ 3 ∷ 4 ∷ []) ≡ 0 ∷ 0 ∷ 0 ∷ 2 ∷ []
  pub last : map (last_on_row names_two_by_two 2) (0 ∷ 1 ∷ 2 ∷ 3 ∷ 4 ∷ []) ≡ 0 ∷ 0 ∷ 2 ∷ 2 ∷ 4 ∷ []
  pub ends : map (end_of two_by_two) (0 ∷ 1 ∷ 2 ∷ 3 ∷ []) ≡ 0 ∷ 2 ∷ 2 ∷ 4 ∷ []
  pub places : map (place_below two_by_two) (1 ∷ 2 ∷ 3 ∷ 4 ∷ 5 ∷ 6 ∷ [])
      ≡ 0 ∷ 0 ∷ 2 ∷ 2 ∷ 3 ∷ 3 ∷ []
  pub rows_of_two_tables : map (row_of two_table_names) (1 ∷ 2 ∷ []) ≡ 1 ∷ 2 ∷ []
  pub owners : map (owner_of 3) (1 ∷ 2 ∷ 3 ∷ 4 ∷ 5 ∷ 6 ∷ 7 ∷ []) ≡ 1 ∷ 2 ∷ 3 ∷ 1 ∷ 2 ∷ 3 ∷ 1 ∷ []

-- two rows whose paths begin at bucket 2 of 4: the second goes to bucket 3
abbrev pub colliding : List RowName
colliding = row_with_key (codes "a") ∷ row_with_key (codes "e") ∷ []

-- two rows whose paths begin at the last bucket: the second goes to the first bucket
abbrev pub wrapping : List RowName
wrapping = row_with_key (codes "b") ∷ row_with_key (codes "f") ∷ []

-- the first two are test vectors that are published with FNV
pub record AreIndexed : Type 0 where
  pub hash_of_a : fnv_1a (codes "a") ≡ 12638187200555641996
  pub hash_of_foobar : fnv_1a (codes "foobar") ≡ 9625390261332436968
  pub counts : map bucket_count (0 ∷ 1 ∷ 2 ∷ 3 ∷ 4 ∷ 5 ∷ []) ≡ 2 ∷ 2 ∷ 4 ∷ 8 ∷ 8 ∷ 16 ∷ []
  pub starts : map (start_of 4) colliding ≡ 2 ∷ 2 ∷ []
  pub buckets : map (first_in_bucket colliding) (0 ∷ 1 ∷ 2 ∷ 3 ∷ []) ≡ 0 ∷ 0 ∷ 1 ∷ 2 ∷ []
  pub last_starts : map (start_of 4) wrapping ≡ 3 ∷ 3 ∷ []
  pub first_bucket : map (first_in_bucket wrapping) (0 ∷ 1 ∷ 2 ∷ 3 ∷ []) ≡ 2 ∷ 0 ∷ 0 ∷ 1 ∷ []
  pub one_row : map (first_in_bucket names_of_one_key) (0 ∷ 1 ∷ 2 ∷ 3 ∷ 4 ∷ 5 ∷ 6 ∷ 7 ∷ [])
      ≡ 0 ∷ 0 ∷ 1 ∷ 0 ∷ 0 ∷ 0 ∷ 0 ∷ 0 ∷ []
