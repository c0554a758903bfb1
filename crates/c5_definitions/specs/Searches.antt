-- The greatest and the least number that pass a test.
use Prim.Native.Nat.{zero, suc}
use Rattle.std.specs.Prelude.{ℕ, Bool, if◌then◌else◌}

-- the greatest number below n that passes the test, or 0
abbrev pub greatest_below : (ℕ → Bool) → ℕ → ℕ
greatest_below test zero = 0
greatest_below test (suc n) = if test n then n else greatest_below test n

-- the first number, but for 0; else the second
abbrev pub first_positive : ℕ → ℕ → ℕ
first_positive zero n = n
first_positive (suc m) n = suc m

-- the least number from 1 to n that passes the test, or 0
abbrev pub least_up_to : (ℕ → Bool) → ℕ → ℕ
least_up_to test zero = 0
least_up_to test (suc n) = first_positive (least_up_to test n) (if test (suc n) then suc n else 0)
