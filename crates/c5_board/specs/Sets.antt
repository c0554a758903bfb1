-- Lists of numbers: as sets, and one number for each worker.
use Rattle.std.specs.Prelude.{ℕ, ◌-◌, ◌==◌, max, not, List, [], ◌∷◌, slice_index, slice_set}
use Rattle.std.specs.List.{filter}

-- the numbers without n
abbrev pub without : ℕ → List ℕ → List ℕ
without n numbers = filter (λ m. not (n == m)) numbers

-- the number of worker i; workers are numbered from 1
abbrev pub number_of : List ℕ → ℕ → ℕ
number_of numbers i = slice_index numbers (i - 1)

-- worker i has this number
abbrev pub with_number : List ℕ → ℕ → ℕ → List ℕ
with_number numbers i x = slice_set numbers (i - 1) x

-- for each worker the greater of its two numbers
abbrev pub greater_of_each : List ℕ → List ℕ → List ℕ
greater_of_each [] ys = []
greater_of_each (x ∷ xs) [] = []
greater_of_each (x ∷ xs) (y ∷ ys) = max x y ∷ greater_of_each xs ys
