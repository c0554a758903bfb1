-- Lists of loads.
use Rattle.std.proofs.Common.{◌++◌, ℕ, List, [], ◌∷◌, map}
use Rattle.c5_board.specs.declared.known.Look.{Look}
use Rattle.c5_board.specs.declared.known.Look.TheVariants.{LoadRecord}
use Rattle.c5_board.specs.declared.known.Record.{Record}
use Rattle.c5_board.specs.Loads.{AreLoads}

pub loads-append : (xs ys : List Look) → AreLoads xs → AreLoads ys → AreLoads (xs ++ ys)
loads-append [] ys h k = k
loads-append (x ∷ xs) ys h k = (h.0, loads-append xs ys h.1 k)

pub records-load : (f : ℕ → Record) (list : List ℕ) → AreLoads (map (λ w. LoadRecord w (f w)) list)
records-load f [] = tt
records-load f (w ∷ list) = (tt, records-load f list)
