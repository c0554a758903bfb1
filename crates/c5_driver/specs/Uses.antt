-- A source and a sink before and after a call.
use Rattle.std.specs.Prelude.{ℕ, Bool, List, Option}

-- the bytes that a source still has, if they are known, and how often a read has failed
pub record SourceUse : Type 0 where
  pub left_old : Option (List ℕ)
  pub left_new : Option (List ℕ)
  pub faults_old : ℕ
  pub faults_new : ℕ

-- the bytes that a sink has taken, if they are known, how often a call has failed, and whether the
-- last call was a flush that succeeded
pub record SinkUse : Type 0 where
  pub held_old : Option (List ℕ)
  pub held_new : Option (List ℕ)
  pub faults_old : ℕ
  pub faults_new : ℕ
  pub flushed_new : Bool

-- a source, seen by its bytes and its count of faults
abbrev pub source_use : {S : Type 0} → (S → Option (List ℕ)) → (S → ℕ) → S → S → SourceUse
source_use left faults old new = record {
  left_old = left old;
  left_new = left new;
  faults_old = faults old;
  faults_new = faults new;
}

-- a sink, seen by its bytes, its count of faults and whether it is flushed
abbrev pub sink_use : {K : Type 0} → (K → Option (List ℕ)) → (K → ℕ) → (K → Bool) → K → K → SinkUse
sink_use held faults flushed old new = record {
  held_old = held old;
  held_new = held new;
  faults_old = faults old;
  faults_new = faults new;
  flushed_new = flushed new;
}
