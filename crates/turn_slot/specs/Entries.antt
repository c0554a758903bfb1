-- Histories, and whose entries they have.
use Rattle.std.specs.Prelude.{◌≡◌, ℕ, ◌≤◌, min, nat_le, true, false, if◌then◌else◌}
use Rattle.std.specs.Prelude.{List, ◌++◌, length, All}
use Rattle.std.specs.List.{filter}
use Rattle.c5_rows.specs.Numbers.{is_among}

-- the number that says a length: u64::MAX if it is longer
abbrev pub count_of : ℕ → ℕ
count_of n = min n 18446744073709551615

-- a pass's number, in a slot of so many passes
abbrev pub IsPassNumber : ℕ → ℕ → Type 0
IsPassNumber passes n = (1 ≤ n) × (n ≤ passes)

-- the longer of two histories
abbrev pub longer : {E : Type 0} → List E → List E → List E
longer xs ys = if nat_le (length ys) (length xs) then xs else ys

module _ {E : Type 0} (caller : E → ℕ) where
  -- the entries of these callers, in order
  abbrev pub entries_of : List ℕ → List E → List E
  entries_of numbers entries = filter (λ e. is_among (caller e) numbers) entries

  -- each entry is of one of these callers
  abbrev pub AreOf : List ℕ → List E → Type 0
  AreOf numbers entries = All (λ e. is_among (caller e) numbers ≡ true) entries

  -- no entry is of one of these callers
  abbrev pub AreOthers : List ℕ → List E → Type 0
  AreOthers numbers entries = All (λ e. is_among (caller e) numbers ≡ false) entries

  -- the log is what was seen, and then entries of others
  abbrev pub IsSeenOf : List E → List ℕ → List E → Type 0
  IsSeenOf log numbers seen = (rest : List E) × (seen ++ rest ≡ log) × AreOthers numbers rest
