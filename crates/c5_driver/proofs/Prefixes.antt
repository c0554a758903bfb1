-- What a sink grew by, in part or as a whole.
use Rattle.std.proofs.Common.{◌≡◌, ℕ, List, ◌++◌, ◌+◌, length, take, Option, Some, None, Result, Ok}
use Rattle.std.proofs.Common.{Err, true, refl, sym, subst, ◌∙◌, arith}
use Rattle.std.proofs.lemmas.List.{take_all, take-append-le, length-append}
use Rattle.std.proofs.Math.Seq.{take-append-add}
use Rattle.std.proofs.KnownBytes.{Appends-trans}
use Rattle.std.specs.Io.KnownBytes.{Appends, Keeps}
use Rattle.std.specs.Prelude.{is_ok, OnErr}
use Rattle.c5_rows.specs.Counts.{Rose}
use Rattle.c5_io.specs.declared.errors.Failed.{Failed}
use Rattle.c5_io.specs.Whole.{AppendsPart}
use Rattle.c5_driver.specs.Printed.{AppendsPrefix}

-- what a later call keeps is still there
pub appends_kept : (old mid new : Option (List ℕ)) (text : List ℕ) → Appends old mid text
    → Keeps mid new → Appends old new text
appends_kept None mid new text grew kept = tt
appends_kept (Some xs) None new text grew kept = absurd grew
appends_kept (Some xs) (Some ys) None text grew kept = absurd kept
appends_kept (Some xs) (Some ys) (Some zs) text grew kept = kept ∙ grew

-- the whole is a prefix
pub whole_is_prefix : (old new : Option (List ℕ)) (text : List ℕ) → Appends old new text
    → AppendsPrefix old new text
whole_is_prefix old new text grew =
    (length text, subst (Appends old new) (sym (take_all (length text) text (omega arith))) grew)

pub part_is_prefix : (old new : Option (List ℕ)) (text : List ℕ) → AppendsPart old new text
    → AppendsPrefix old new text
part_is_prefix old new text part = (part.0, part.2)

-- a first part, and a prefix of the second, which more would follow
pub prefix_in_second : (a b c : Option (List ℕ)) (first second more : List ℕ) → Appends a b first
    → AppendsPart b c second → AppendsPrefix a c (first ++ second ++ more)
prefix_in_second a b c first second more grew part =
    let n = part.0 in
    let short = part.1 in
    let same : take (length first + n) (first ++ second ++ more) ≡ first ++ take n second =
    take-append-le (length first + n) (first ++ second) more
    (omega (arith, length-append first second, short)) ∙ take-append-add first second n in (
      length first + n,
      subst (Appends a c) (sym same)
          (Appends-trans a b c first (take n second) grew part.2),
    )

-- the same of a last part
pub prefix_in_last : (a b c : Option (List ℕ)) (first last : List ℕ) → Appends a b first
    → AppendsPart b c last → AppendsPrefix a c (first ++ last)
prefix_in_last a b c first last grew part =
    let n = part.0 in (
      length first + n,
      subst (Appends a c) (sym (take-append-add first last n))
          (Appends-trans a b c first (take n last) grew part.2),
    )

-- a count that rose in a later call
pub rose-later : (a b c : ℕ) → b ≡ a → Rose b c → Rose a c
rose-later a b c calm rose = subst (λ (n : ℕ). Rose n c) calm rose

-- a flush that didn't fail has flushed
pub flushed-unless : (result : Result (Unit {0}) Failed) (a b c : ℕ) → b ≡ a
    → OnErr result (Rose b c) → ¬ Rose a c → is_ok result ≡ true
flushed-unless (Ok done) a b c calm failed kept = refl
flushed-unless (Err fault) a b c calm failed kept = absurd (kept (rose-later a b c calm failed))
