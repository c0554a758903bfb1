-- What a sink took of a text.
use Rattle.std.specs.Prelude.{◌≡◌, ◌≢◌, ◌≤◌, ℕ, true, List, [], take, Option}
use Rattle.std.specs.Io.KnownBytes.{Appends}
use Rattle.c5_rows.specs.Counts.{Rose}
use Rattle.c5_driver.specs.declared.status.Status.{Status}
use Rattle.c5_driver.specs.declared.status.Status.TheVariants as statuses
use Rattle.c5_driver.specs.Uses.{SinkUse}

-- what a sink holds grew by a prefix of the text, which may be the whole of it
abbrev pub AppendsPrefix : Option (List ℕ) → Option (List ℕ) → List ℕ → Type 0
AppendsPrefix old new text = (n : ℕ) × Appends old new (take n text)

-- the whole text was written and flushed, and no call failed
pub record PrintsAll (sink : SinkUse) (text : List ℕ) : Type 0 where
  pub written : Appends sink.held_old sink.held_new text
  pub flushed : sink.flushed_new ≡ true
  pub faultless : sink.faults_new ≡ sink.faults_old

-- a prefix of the text was written, and a call failed
pub record PrintsPart (sink : SinkUse) (text : List ℕ) : Type 0 where
  pub written : AppendsPrefix sink.held_old sink.held_new text
  pub failed : Rose sink.faults_old sink.faults_new

-- a prefix of the line was written; unless a call failed, the whole line was written and flushed
pub record PrintsLine (sink : SinkUse) (line : List ℕ) : Type 0 where
  pub written : AppendsPrefix sink.held_old sink.held_new line
  pub whole : ¬ Rose sink.faults_old sink.faults_new → Appends sink.held_old sink.held_new line
  pub flushed : line ≢ [] → ¬ Rose sink.faults_old sink.faults_new → sink.flushed_new ≡ true
  pub later : sink.faults_old ≤ sink.faults_new

-- printing a text ends with Ok or WriteFault
abbrev pub PrintsText : Status → SinkUse → List ℕ → Type 0
PrintsText statuses.Ok sink text = PrintsAll sink text
PrintsText statuses.WriteFault sink text = PrintsPart sink text
PrintsText status sink text = ⊥
