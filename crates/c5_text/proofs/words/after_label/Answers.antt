use Rattle.std.proofs.Common.{◌≡◌, ◌++◌, List, ℕ, Option, Some, None, Bor}
use Rattle.std.specs.Prelude.{MatchOption, IfSome, IfNone}
use Rattle.std.proofs.lemmas.Bool.Decides.{Decides-eqb}
use Rattle.std.proofs.lemmas.Slice.Eq.{strip_prefix_is}
use Rattle.c5_text.proofs.words.after_label.Goals as goal

found-of : (label bytes : List ℕ) (r : Option (Bor (List ℕ)))
    → MatchOption r ((rest : List ℕ) → bytes ≡ label ++ rest → ⊥) (λ x. bytes ≡ label ++ x.now)
    → IfSome r (λ rest. bytes ≡ label ++ rest.now)
found-of label bytes (Some x) m = m
found-of label bytes None m = tt

none-of : (label bytes : List ℕ) (r : Option (Bor (List ℕ)))
    → MatchOption r ((rest : List ℕ) → bytes ≡ label ++ rest → ⊥) (λ x. bytes ≡ label ++ x.now)
    → IfNone r ((rest : List ℕ) → bytes ≡ label ++ rest → ⊥)
none-of label bytes (Some x) m = tt
none-of label bytes None m = m

pub returns-clause-found : goal.returns-clause-found
returns-clause-found c = found-of c.args.label.now c.args.bytes.now c.strip_prefix.result
    (strip_prefix_is Decides-eqb c.args.bytes.now c.args.label.now c.strip_prefix.result
    c.strip_prefix.ensures.cases)

pub returns-clause-none : goal.returns-clause-none
returns-clause-none c = none-of c.args.label.now c.args.bytes.now c.strip_prefix.result
    (strip_prefix_is Decides-eqb c.args.bytes.now c.args.label.now c.strip_prefix.result
    c.strip_prefix.ensures.cases)
