-- A decoder that takes what a source gives.
use Rattle.std.specs.Prelude.{◌≡◌, ◌++◌, ℕ, List}
use Rattle.std.specs.Io.KnownBytes.{Consumes}
use Rattle.c5_driver.specs.Uses.{SourceUse}

-- the bytes that were read are taken, and no read failed
pub record FeedsSource (source : SourceUse) (old new : List ℕ) : Type 0 where
  pub bytes : List ℕ
  pub taken : Consumes source.left_old source.left_new bytes
  pub appended : new ≡ old ++ bytes
  pub faultless : source.faults_new ≡ source.faults_old
