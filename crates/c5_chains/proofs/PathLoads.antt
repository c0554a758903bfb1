-- The looks of a path are loads.
use Rattle.std.proofs.Common.{ℕ, List, [], ◌∷◌}
use Rattle.c5_board.specs.Loads.{AreLoads}
use Rattle.c5_definitions.specs.RowIndex.{next_bucket}
use Rattle.c5_chains.specs.Paths.{path_loads}

pub path-loads : (buckets j : ℕ) (found : List ℕ) → AreLoads (path_loads buckets j found)
path-loads buckets j [] = tt
path-loads buckets j (w ∷ found) = (tt, path-loads buckets (next_bucket buckets j) found)
