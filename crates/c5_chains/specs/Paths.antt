-- The looks of a walk along the path of a name.
use Prim.Native.Nat.{zero, suc}
use Rattle.std.specs.Prelude.{◌≡◌, ◌≢◌, ◌≤◌, ◌<◌, ◌++◌, ℕ, List, [], ◌∷◌, length, slice_index, All}
use Rattle.std.specs.Prelude.{Option, Some, None}
use Rattle.std.specs.Option.{unwrap_or}
use Rattle.c5_rows.specs.declared.writes.RowName.{RowName}
use Rattle.c5_definitions.specs.WriteNumbers.{name_at, IsFirstWrite}
use Rattle.c5_definitions.specs.RowIndex.{bucket_count, start_of, next_bucket, bucket_on_path}
use Rattle.c5_definitions.specs.RowIndex.{first_in_bucket}
use Rattle.c5_board.specs.declared.known.Look.{Look}
use Rattle.c5_board.specs.declared.known.Look.TheVariants.{LoadBucket}
use Rattle.c5_board.specs.Boards.{Board, Pass, names, write_count}

-- loads of the buckets of a path from bucket j on, which found these words
abbrev pub path_loads : ℕ → ℕ → List ℕ → List Look
path_loads buckets j [] = []
path_loads buckets j (found ∷ rest) = LoadBucket j found
    ∷ path_loads buckets (next_bucket buckets j) rest

-- the board's buckets, and where the path of this name begins
abbrev pub buckets_of : Board → ℕ
buckets_of board = bucket_count (write_count board)

abbrev pub start_in : Board → RowName → ℕ
start_in board name = start_of (buckets_of board) name

-- the first write of another row
pub record IsOther (names : List RowName) (name : RowName) (w : ℕ) : Type 0 where
  pub first : IsFirstWrite names w
  pub other : name_at names w ≢ Some name

-- the buckets of the path were loaded in order: the last one found is the row, or empty, and the
-- others are other rows
pub record FollowsPath (old new : Pass) (name : RowName) (row : Option ℕ) : Type 0 where
  pub passed : List ℕ
  pub others : All (IsOther (names old.board) name) passed
  pub pass : new
      ≡ record old {
        looks = old.looks ++ path_loads (buckets_of old.board) (start_in old.board name)
            (passed ++ unwrap_or row 0 ∷ []);
      }

-- after k buckets of the path, which are of other rows, comes bucket j
pub record IsOnPath (old now : Pass) (name : RowName) (k j : ℕ) : Type 0 where
  pub passed : List ℕ
  pub count : length passed ≡ k
  pub others : All (IsOther (names old.board) name) passed
  pub words : (i : ℕ) → i < k → slice_index passed i
      ≡ first_in_bucket (names old.board)
      (bucket_on_path (buckets_of old.board) (start_in old.board name) i)
  pub bucket : j ≡ bucket_on_path (buckets_of old.board) (start_in old.board name) k
  pub pass : now
      ≡ record old
      { looks = old.looks ++ path_loads (buckets_of old.board) (start_in old.board name) passed }
