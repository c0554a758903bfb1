-- What a whole read and a whole write make of the bytes.
use Rattle.std.specs.Prelude.{◌≡◌, ℕ, ◌<◌, ◌≤◌, List, length, take, Result, IsErrOf, OnOk}
use Rattle.std.specs.declared.option.Option.{Option}
use Rattle.std.specs.Io.KnownBytes.{Appends, Consumes}
use Rattle.c5_rows.specs.Counts.{Rose}
use Rattle.c5_io.specs.declared.errors.InFault.{InFault}
use Rattle.c5_io.specs.declared.errors.InFault.TheVariants.{Failed, TooLong, NoMemory}

-- a source lost exactly n bytes, if its bytes are known
abbrev pub Loses : Option (List ℕ) → Option (List ℕ) → ℕ → Type 0
Loses old new n = (bytes : List ℕ) × (length bytes ≡ n) × Consumes old new bytes

-- a source lost at most n bytes, if its bytes are known
abbrev pub LosesAtMost : Option (List ℕ) → Option (List ℕ) → ℕ → Type 0
LosesAtMost old new n = (bytes : List ℕ) × (length bytes ≤ n) × Consumes old new bytes

-- a sink took a proper prefix of the bytes, if its bytes are known
abbrev pub AppendsPart : Option (List ℕ) → Option (List ℕ) → List ℕ → Type 0
AppendsPart old new bytes = (n : ℕ) × (n < length bytes) × Appends old new (take n bytes)

-- the count never falls, `Failed` comes only if it rose, and each other answer leaves it as it
-- was
pub record HasReadCause {T : Type 0} (before now : ℕ) (result : Result T InFault) : Type 0 where
  pub later : before ≤ now
  pub failed : IsErrOf result Failed → Rose before now
  pub kept : OnOk result (now ≡ before)
  pub too_long : IsErrOf result TooLong → now ≡ before
  pub no_memory : IsErrOf result NoMemory → now ≡ before
