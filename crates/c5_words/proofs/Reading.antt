-- What the matches of a parse say of the run.
use Rattle.std.proofs.Common.{◌≡◌, ◌∙◌, ◌≤◌, ℕ, refl, sym, subst, ap, arith, List}
use Rattle.std.proofs.Common.{Option, Some, None, Result, Ok, Err, codes}
use Rattle.std.specs.Prelude.{IfSome, unwrap_or}
use Rattle.std.specs.Option.{option_map_or}
use Rattle.std.specs.Str.Parse.{ParsesUnsigned, digits_value, without_leading_plus}
use Rattle.clap.specs.Matches.{ReadsOne, first_value, one_text}
use Rattle.clap.specs.Values.{IsUnsignedIn}
use Rattle.clap.specs.Walk.{Text, first_of, one_of, rows_of}
use Rattle.clap.proofs.WalkLemmas.{first_value-rows, one_text-rows}
use Rattle.clap.specs.declared.parser.matches.Found.{Found}
use Rattle.c5_words.specs.Program.{default_count, max_count}
use Rattle.c5_words.specs.Meaning.{option_number, request_in, run_of}

-- `get_one` of an option whose value is in a range gives its number, or nothing if it isn't given
pub number_read : (E : Type 0) (G : List ℕ → Result ℕ E → Type 0) (f : Found) (name : Text)
    (default : ℕ) (r : Option ℕ)
    → ((u : List ℕ) (x : Result ℕ E) → G u x → ParsesUnsigned 32 10 u x)
    → IfSome (one_text f name) (IsUnsignedIn 1 max_count) → (one_text f name ≡ None → r ≡ None)
    → ((t : Text) → one_text f name ≡ Some t → ReadsOne G t r)
    → unwrap_or r default ≡ option_number name default (rows_of f)
unfolding option_number
number_read E G f name default r only within none value = rw (← one_text-rows f name)
    (go (one_text f name) refl within)
  where
    some : (t : Text) → IsUnsignedIn 1 max_count t → (o : Option ℕ) → ReadsOne G t o
        → unwrap_or o default ≡ digits_value 10 (without_leading_plus t)
    some t fits (Some v) h = (only t (Ok v) h).1
    some t fits None h =
        let most = fits.3 in
        absurd (only t (Err h.0) h.1 (fits.0, omega arith))

    go : (o : Option Text) → one_text f name ≡ o → IfSome o (IsUnsignedIn 1 max_count)
        → unwrap_or r default
        ≡ option_map_or (λ t. digits_value 10 (without_leading_plus t)) o default
    go None e fits = ap (λ (o : Option ℕ). unwrap_or o default) (none e)
    go (Some t) e fits = some t fits r (value t e)

-- a number of an option is in the option's range
pub number_within : (f : Found) (name : Text) (most default n : ℕ) → 1 ≤ default → default ≤ most
    → IfSome (one_text f name) (IsUnsignedIn 1 most) → n ≡ option_number name default (rows_of f)
    → (1 ≤ n) × (n ≤ most)
unfolding option_number
number_within f name most default n some few within is =
    go (one_of name (rows_of f)) refl
    (subst (λ (o : Option Text). IfSome o (IsUnsignedIn 1 most)) (one_text-rows f name) within)
  where
    go : (o : Option Text) → one_of name (rows_of f) ≡ o → IfSome o (IsUnsignedIn 1 most)
        → (1 ≤ n) × (n ≤ most)
    go None e h =
        let same : n ≡ default = rw e at is in
        (omega arith, omega arith)
    go (Some t) e h =
        let same : n ≡ digits_value 10 (without_leading_plus t) = rw e at is in
        (rw same h.2, rw same h.3)

pub run_is : (f : Found) (word : Text) (a b n : ℕ) → Some word ≡ first_value f (codes "command")
    → a ≡ option_number (codes "threads") 1 (rows_of f)
    → b ≡ option_number (codes "workers") 1 (rows_of f)
    → n ≡ option_number (codes "count") default_count (rows_of f)
    → run_of (rows_of f)
    ≡ request_in (record { threads = a; workers = b; count = n }) word
run_is f word a b n first threads workers count =
    let there : first_of (codes "command") (rows_of f) ≡ Some word =
    sym (first ∙ first_value-rows f (codes "command")) in
    rw (there, ← threads, ← workers, ← count) refl

pub no_run : (f : Found) → None ≡ first_value f (codes "command") → run_of (rows_of f) ≡ None
no_run f first =
    let there : first_of (codes "command") (rows_of f) ≡ None =
    sym (first ∙ first_value-rows f (codes "command")) in
    rw there refl
