-- Lists of numbers.
use Prim.Native.Nat.{zero, suc}
use Rattle.std.specs.Prelude.{ℕ, ◌==◌, Bool, List, [], ◌∷◌}
use Rattle.std.specs.List.{list_any}

-- whether n is among the numbers
abbrev pub is_among : ℕ → List ℕ → Bool
is_among n numbers = list_any (λ m. n == m) numbers

-- so many numbers, ascending by 1 from the first one
abbrev pub numbers_from : ℕ → ℕ → List ℕ
numbers_from first zero = []
numbers_from first (suc n) = first ∷ numbers_from (suc first) n
