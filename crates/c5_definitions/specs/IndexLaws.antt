-- What follows of the index of rows.
use Rattle.std.specs.Prelude.{◌≡◌, ◌≢◌, ◌≤◌, ◌<◌, ◌*◌, ℕ, List, length}
use Rattle.c5_rows.specs.declared.writes.RowName.{RowName}
use Rattle.c5_definitions.specs.WriteNumbers.{IsFirstWrite}
use Rattle.c5_definitions.specs.RowIndex.{bucket_count, start_of, next_bucket, bucket_on_path}
use Rattle.c5_definitions.specs.RowIndex.{start_of_write, first_in_bucket, IsSlot}
use Rattle.c5_rows.specs.Sizes.{max_writes, max_buckets}

-- there are more buckets than writes, and paths stay among them
pub record BucketsSuffice (writes : ℕ) : Type 0 where
  pub two : 2 ≤ bucket_count writes
  pub twice : 2 * writes ≤ bucket_count writes
  pub more : writes < bucket_count writes
  pub few : writes ≤ max_writes → bucket_count writes ≤ max_buckets
  pub start : (name : RowName) → start_of (bucket_count writes) name < bucket_count writes
  pub next : (j : ℕ) → j < bucket_count writes
      → next_bucket (bucket_count writes) j < bucket_count writes

-- the number of buckets of the index of these names
abbrev pub bucket_count_of : List RowName → ℕ
bucket_count_of names = bucket_count (length names)

-- bucket k of the path of w's name
abbrev pub path_of : List RowName → ℕ → ℕ → ℕ
path_of names w k =
    bucket_on_path (bucket_count_of names) (start_of_write names (bucket_count_of names) w) k

-- the path of w leads to its slot, by slots of smaller first writes alone
pub record LeadsToSlot (names : List RowName) (w k : ℕ) : Type 0 where
  pub within : k < bucket_count_of names
  pub slot : IsSlot names w (path_of names w k)
  pub before : (i : ℕ) → i < k → first_in_bucket names (path_of names w i) < w
  pub taken : (i : ℕ) → i < k → first_in_bucket names (path_of names w i) ≢ 0

-- each bucket is free or the slot of one first write, each first write has a slot, and each path
-- comes to a free bucket
pub record RowsAreIndexed (names : List RowName) : Type 0 where
  pub first : (j : ℕ) → j < bucket_count_of names → first_in_bucket names j ≢ 0
      → IsFirstWrite names (first_in_bucket names j)
  pub one : (i j : ℕ) → i < bucket_count_of names → j < bucket_count_of names
      → first_in_bucket names i ≡ first_in_bucket names j → first_in_bucket names i ≢ 0 → i ≡ j
  pub path : (w : ℕ) → IsFirstWrite names w → (k : ℕ) × LeadsToSlot names w k
  pub ends : (start : ℕ) → start < bucket_count_of names
      → (k : ℕ) × (k < bucket_count_of names)
      × (first_in_bucket names (bucket_on_path (bucket_count_of names) start k) ≡ 0)
