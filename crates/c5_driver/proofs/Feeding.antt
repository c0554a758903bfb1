-- What feeding a decoder from a source comes to.
use Rattle.std.proofs.Common.{◌≡◌, ◌≤◌, ◌-◌, ◌++◌, ◌∙◌, ℕ, List, [], length, Option, Some, None}
use Rattle.std.proofs.Common.{refl, sym, subst, arith}
use Rattle.std.specs.Io.KnownBytes.{Consumes, Keeps}
use Rattle.std.proofs.KnownBytes.{Consumes-trans}
use Rattle.std.proofs.lemmas.List.{length-append}
use Rattle.c5_rows.specs.Counts.{Rose}
use Rattle.c5_driver.specs.declared.refusal.Refusal.{Refusal}
use Rattle.c5_driver.specs.declared.refusal.Refusal.TheVariants as refusals
use Rattle.c5_driver.specs.Feeding.{FeedsSource}
use Rattle.c5_driver.specs.Inputs.{Refuses, none_refused}
use Rattle.c5_driver.specs.Uses.{SourceUse}

-- nothing is consumed at first
pub consumes-none : (a : Option (List ℕ)) → Consumes a a []
consumes-none None = tt
consumes-none (Some xs) = refl

-- what is kept is not consumed
pub keeps-consumes : (a b : Option (List ℕ)) → Keeps a b → Consumes a b []
keeps-consumes None b kept = tt
keeps-consumes (Some xs) None kept = absurd kept
keeps-consumes (Some xs) (Some ys) kept = sym kept

abbrev use_of : Option (List ℕ) → Option (List ℕ) → ℕ → ℕ → SourceUse
use_of left_old left_new faults_old faults_new =
    record {
      left_old = left_old;
      left_new = left_new;
      faults_old = faults_old;
      faults_new = faults_new;
    }

never : (refusal : Refusal) → None ≡ Some refusal → ⊥
never refusal e = absurd cc

-- what was taken before and now
pub takes-more : (a b c : Option (List ℕ)) (f0 f1 : ℕ) (old new : List ℕ) → Consumes a b old
    → FeedsSource (use_of b c f0 f1) old new → Consumes a c new
takes-more a b c f0 f1 old new taken more =
    subst (Consumes a c) (sym more.appended) (Consumes-trans a b c old more.bytes taken more.taken)

-- why one more read ends the feeding is why the whole input is refused
pub stops-refuses : (refusal : Refusal) (limit : ℕ) (a b c : Option (List ℕ)) (f0 f1 f2 : ℕ)
    (bytes : List ℕ) → length bytes ≤ limit → f1 ≡ f0 → Consumes a b bytes
    → Refuses (limit - length bytes) none_refused (use_of b c f1 f2) refusal
    → Refuses limit none_refused (use_of a c f0 f2) refusal
stops-refuses refusals.BadWords limit a b c f0 f1 f2 bytes within calm taken why = absurd why
stops-refuses refusals.ReadFault limit a b c f0 f1 f2 bytes within calm taken why =
    let lost = why.1 in
    let few = lost.1 in (
      subst (λ (n : ℕ). Rose n f2) calm why.0,
      (
        bytes ++ lost.0,
        omega (arith, length-append bytes lost.0),
        Consumes-trans a b c bytes lost.0 taken lost.2,
      ),
    )
stops-refuses refusals.TooLong limit a b c f0 f1 f2 bytes within calm taken why =
    let lost = why.0 in
    let many = lost.1 in (
      (
        bytes ++ lost.0,
        omega (arith, length-append bytes lost.0),
        Consumes-trans a b c bytes lost.0 taken lost.2,
      ),
      why.1 ∙ calm,
    )
stops-refuses refusals.NoMemory limit a b c f0 f1 f2 bytes within calm taken why =
    let lost = why.taken in
    let few = lost.1 in
    record {
      taken = (
        bytes ++ lost.0,
        omega (arith, length-append bytes lost.0),
        Consumes-trans a b c bytes lost.0 taken lost.2,
      );
      faultless = why.faultless ∙ calm;
    }
stops-refuses (refusals.BadScript fault) limit a b c f0 f1 f2 bytes within calm taken why =
    absurd (never _ why.2)
stops-refuses (refusals.BadLog fault) limit a b c f0 f1 f2 bytes within calm taken why =
    absurd (never _ why.2)
stops-refuses (refusals.Limit excess) limit a b c f0 f1 f2 bytes within calm taken why =
    absurd (never _ why.2)
