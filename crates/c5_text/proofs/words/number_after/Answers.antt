use Rattle.std.proofs.Common.{◌≡◌, ◌∙◌, ◌++◌, List, [], ℕ, sym, ap, Option, Some, None, Bor}
use Rattle.std.specs.Prelude.{IfNone, IfSome}
use Rattle.std.proofs.lemmas.List.{append_cancel_left}
use Rattle.c5_definitions.specs.Outputs.{number_text}
use Rattle.c5_text.specs.Readers.{IsAfter}
use Rattle.c5_text.proofs.words.number_after.Goals as goal

found-of : (label bytes rest : List ℕ) (r : Option (ℕ × Bor (List ℕ))) → bytes ≡ label ++ rest
    → IfSome r (λ x. IsAfter [] rest x.0 x.1.now) → IfSome r (λ x. IsAfter label bytes x.0 x.1.now)
found-of label bytes rest (Some x) is found =
    record {
      small = found.small;
      ends = found.ends;
      spelled = is ∙ ap (λ (t : List ℕ). label ++ t) found.spelled;
    }
found-of label bytes rest None is found = tt

none-of : (label bytes rest : List ℕ) (r : Option (ℕ × Bor (List ℕ))) → bytes ≡ label ++ rest
    → IfNone r ((n : ℕ) (after : List ℕ) → IsAfter [] rest n after → ⊥)
    → IfNone r ((n : ℕ) (after : List ℕ) → IsAfter label bytes n after → ⊥)
none-of label bytes rest (Some x) is never = tt
none-of label bytes rest None is never =
    λ n after found. never n after
    (record {
      small = found.small;
      ends = found.ends;
      spelled = append_cancel_left label rest (number_text n ++ after) (sym is ∙ found.spelled);
    })

pub returns-in-Some-clause-found : goal.returns-in-Some-clause-found
returns-in-Some-clause-found c =
    found-of c.args.label.now c.args.bytes.now c.in-Some.rest.now c.number_at.result
    c.in-Some.ensures.found c.number_at.ensures.found

pub returns-in-Some-clause-none : goal.returns-in-Some-clause-none
returns-in-Some-clause-none c =
    none-of c.args.label.now c.args.bytes.now c.in-Some.rest.now c.number_at.result
    c.in-Some.ensures.found c.number_at.ensures.none

pub returns-in-None-clause-none : goal.returns-in-None-clause-none
returns-in-None-clause-none c =
    λ n rest found. c.in-None.ensures.none (number_text n ++ rest) found.spelled
