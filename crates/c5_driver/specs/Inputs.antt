-- What reading an input up to a limit of bytes comes to.
use Rattle.std.specs.Prelude.{◌≡◌, ◌≤◌, ◌+◌, ℕ, List, length, Option, Some, None, Result, Ok, Err}
use Rattle.std.specs.Io.KnownBytes.{Consumes, IsAtEnd}
use Rattle.c5_rows.specs.Counts.{Rose}
use Rattle.c5_io.specs.Whole.{Loses, LosesAtMost}
use Rattle.c5_driver.specs.declared.refusal.Refusal.{Refusal}
use Rattle.c5_driver.specs.declared.refusal.Refusal.TheVariants as refusals
use Rattle.c5_driver.specs.Uses.{SourceUse}

-- the input is all that the source had left, if that is known, and no read failed
pub record ReadsAll (limit : ℕ) (source : SourceUse) (input : List ℕ) : Type 0 where
  pub consumed : Consumes source.left_old source.left_new input
  pub ended : IsAtEnd source.left_new
  pub within : length input ≤ limit
  pub faultless : source.faults_new ≡ source.faults_old

-- the call took at most so many bytes, and no read failed
pub record TakesAtMost (limit : ℕ) (source : SourceUse) : Type 0 where
  pub taken : LosesAtMost source.left_old source.left_new limit
  pub faultless : source.faults_new ≡ source.faults_old

-- why an input is refused: a read failed, with at most the limit read; one byte more than the limit
-- was read; memory ran out; or the whole input was read, and is refused for what it is
abbrev pub Refuses : ℕ → (List ℕ → Option Refusal) → SourceUse → Refusal → Type 0
Refuses limit refused source refusals.BadWords = ⊥
Refuses limit refused source refusals.ReadFault =
    Rose source.faults_old source.faults_new × LosesAtMost source.left_old source.left_new limit
Refuses limit refused source refusals.TooLong =
    Loses source.left_old source.left_new (limit + 1) × (source.faults_new ≡ source.faults_old)
Refuses limit refused source refusals.NoMemory = TakesAtMost limit source
Refuses limit refused source refusal =
    (input : List ℕ) × ReadsAll limit source input × (refused input ≡ Some refusal)

-- a value is made of an input that is read whole and not refused, or the input is refused
abbrev pub ReadsInput : {T : Type 0} → ℕ → (List ℕ → Option Refusal) → (List ℕ → T → Type 0)
    → SourceUse → Result T Refusal → Type 0
ReadsInput limit refused made source (Ok value) =
    (input : List ℕ) × ReadsAll limit source input × (refused input ≡ None) × made input value
ReadsInput limit refused made source (Err refusal) = Refuses limit refused source refusal

-- no input is refused for what it is
abbrev pub none_refused : List ℕ → Option Refusal
none_refused input = None

-- memory ran out, or this is the refusal
abbrev pub IsRefusedBy : Option Refusal → Refusal → Type 0
IsRefusedBy found refusals.NoMemory = Unit {0}
IsRefusedBy found refusal = found ≡ Some refusal
