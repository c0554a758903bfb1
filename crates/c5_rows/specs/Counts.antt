-- What a count of faults says of a result.
use Rattle.std.specs.Prelude.{◌≡◌, ℕ, ◌+◌, ◌-◌, ◌^◌, ◌≤◌, min, Result, OnOk, OnErr}

-- the count rose, or is at its last value
abbrev pub Rose : ℕ → ℕ → Type 0
Rose before now = min (before + 1) (2 ^ 64 - 1) ≤ now

-- the count never falls, an error comes only if it rose, and an Ok leaves it as it was
pub record HasCause {T E : Type 0} (before now : ℕ) (result : Result T E) : Type 0 where
  pub later : before ≤ now
  pub failed : OnErr result (Rose before now)
  pub kept : OnOk result (now ≡ before)
