-- What a count of refusals says of a whole body or read block.
use Rattle.std.specs.Prelude.{◌≡◌, ℕ, ◌≤◌, List, ◌++◌, Result, Ok, Err}
use Rattle.c5_eval.specs.declared.reading.EvalFault.{EvalFault}
use Rattle.c5_eval.specs.declared.reading.EvalFault.TheVariants.{Read, NoMemory}
use Rattle.c5_rows.specs.Counts.{Rose}

-- a row is refused only if the count rose, and any other result leaves it as it was
abbrev pub CauseOf : {T F : Type 0} → ℕ → ℕ → Result T (EvalFault F) → Type 0
CauseOf before now (Ok x) = now ≡ before
CauseOf before now (Err (Read fault)) = Rose before now
CauseOf before now (Err NoMemory) = now ≡ before

-- the count never falls, and the result is `Read` if it rose, and only if it rose or is at its last
-- value
pub record HasRowCause {T F : Type 0} (before now : ℕ)
    (result : Result T (EvalFault F)) : Type 0 where
  pub later : before ≤ now
  pub cause : CauseOf before now result

-- the list grew only at its end
abbrev pub Grew : {X : Type 0} → List X → List X → Type 0
Grew {X} before now = (more : List X) × (now ≡ before ++ more)
