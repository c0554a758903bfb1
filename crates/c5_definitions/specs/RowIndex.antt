-- The index of rows: a table of buckets, in which each row's first write has a slot of its own.
use Prim.Native.Nat.{zero, suc}
use Rattle.std.specs.Prelude.{◌≡◌, ◌<◌, ◌+◌, ◌*◌, ◌%◌, ◌^◌, ◌==◌, ℕ, bit_xor, nat_le, List, ◌∷◌}
use Rattle.std.specs.Prelude.{length, replicate, slice_index, slice_set, Some, None, if◌then◌else◌}
use Rattle.std.specs.List.{fold}
use Rattle.c5_rows.specs.declared.writes.RowName.{RowName}
use Rattle.c5_definitions.specs.Searches.{least_up_to}
use Rattle.c5_definitions.specs.WriteNumbers.{name_at, row_of}

-- the number of buckets: the least power of two that is at least 2 and at least twice the writes
unfoldable pub bucket_count : ℕ → ℕ
bucket_count writes = 2 ^ least_up_to (λ k. nat_le (2 * writes) (2 ^ k)) (writes + 1)

-- one round of FNV-1a of 64 bits
abbrev pub fnv_round : ℕ → ℕ → ℕ
fnv_round hash byte = (bit_xor hash byte * 1099511628211) % 2 ^ 64

-- FNV-1a of 64 bits
unfoldable pub fnv_1a : List ℕ → ℕ
fnv_1a bytes = fold fnv_round 14695981039346656037 bytes

-- where the path of a name begins
unfoldable pub start_of : ℕ → RowName → ℕ
start_of buckets name = fnv_1a (name.table ∷ name.key) % buckets

-- the bucket after j on a path; after the last comes the first
unfoldable pub next_bucket : ℕ → ℕ → ℕ
next_bucket buckets j = if j + 1 == buckets then 0 else j + 1

-- bucket k of the path that begins at this bucket
unfoldable pub bucket_on_path : ℕ → ℕ → ℕ → ℕ
bucket_on_path buckets start zero = start
bucket_on_path buckets start (suc k) = next_bucket buckets (bucket_on_path buckets start k)

-- the first bucket from j on that is free, among this many
unfoldable pub free_from : List ℕ → ℕ → ℕ → ℕ
free_from index zero j = j
free_from index (suc left) j = if slice_index index j == 0 then j
    else free_from index left (next_bucket (length index) j)

-- where the path of w's name begins
unfoldable pub start_of_write : List RowName → ℕ → ℕ → ℕ
start_of_write names buckets w =
    elim (name_at names w) [ None ↦ 0 | Some name ↦ start_of buckets name ]

-- the index with w in it: a first write takes the first free bucket of its path
unfoldable pub index_with : List RowName → List ℕ → ℕ → List ℕ
index_with names index w =
    if row_of names w == w
    then slice_set index (free_from index (length index) (start_of_write names (length index) w)) w
    else index

-- the index of the writes up to n
unfoldable pub index_up_to : List RowName → ℕ → List ℕ
index_up_to names zero = replicate (bucket_count (length names)) 0
index_up_to names (suc n) = index_with names (index_up_to names n) (suc n)

-- the first write whose slot is bucket j, or 0
unfoldable pub first_in_bucket : List RowName → ℕ → ℕ
first_in_bucket names j = slice_index (index_up_to names (length names)) j

-- j is the slot of w: the first bucket on the path of w's name that isn't the slot of a smaller
-- first write
pub record IsSlot (names : List RowName) (w j : ℕ) : Type 0 where
  pub within : j < bucket_count (length names)
  pub holds : first_in_bucket names j ≡ w
