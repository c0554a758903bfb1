-- Steps that may fail, with the cause of the first that does.
use Rattle.std.specs.Prelude.{◌≡◌, Result, Ok, Err}

-- one step, and then the next if it did not fail
infixl 10 ◌>>=◌
abbrev pub ◌>>=◌ : {A B E : Type 0} → Result A E → (A → Result B E) → Result B E
(Ok x) >>= f = f x
(Err cause) >>= f = Err cause

-- what was checked, or this cause
abbrev pub or_cause : {A D E : Type 0} → E → Result A D → Result A E
or_cause cause (Ok x) = Ok x
or_cause cause (Err other) = Err cause

-- what a function returned, seen by view, is what reading gives
abbrev pub Gives : {X Y E : Type 0} → (X → Y) → Result X E → Result Y E → Type 0
Gives view (Ok x) read = read ≡ Ok (view x)
Gives view (Err cause) read = read ≡ Err cause
