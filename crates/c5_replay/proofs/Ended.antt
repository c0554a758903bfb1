-- The ends of the parts, in the order of the parts.
use Rattle.std.proofs.Common.{◌≡◌, ◌∙◌, ◌+◌, ◌-◌, ◌≤◌, ◌<◌, ◌++◌, ℕ, zero, suc, List, [], ◌∷◌}
use Rattle.std.proofs.Common.{length, map, drop, get_or, ap, sym, subst, refl, arith}
use Rattle.std.specs.Prelude.{IfOk, Result, Ok, Err}
use Rattle.std.specs.List.{AllByRecursion, range_with_len}
use Rattle.c5_rows.specs.State.{State}
use Rattle.c5_rows.specs.declared.memory.NoMemory.{NoMemory}
use Rattle.c5_definitions.specs.ScriptParts.{ReadParts}
use Rattle.c5_io.specs.declared.gate.Role.{Role}
use Rattle.c5_io.specs.declared.gate.Role.TheVariants as roles
use Rattle.c5_board.specs.Boards.{Board}
use Rattle.c5_replay.specs.declared.part.Part.{Part}
use Rattle.c5_replay.specs.Parts.{role_of, Plays, HasEnded, HaveEnded, IsNextEnd}

pub all-at : {X : Type 0} (P : X → Type 0) (xs : List X) (i : ℕ) (x : X) → AllByRecursion P xs
    → i < length xs → x ≡ get_or xs i x → P x
all-at P [] i x h less is = absurd (omega arith)
all-at P (y ∷ ys) zero x h less is = subst P (sym is) h.0
all-at P (y ∷ ys) (suc i) x h less is = all-at P ys i x h.1 (omega arith) is

-- what an end says of the part before it ran
abbrev pub EndsOf : Board → State → List ReadParts → Part → Result Part NoMemory → Type 0
EndsOf board start reads part end =
    IfOk end (λ after. (role_of after ≡ role_of part) × Plays board start reads after)

pub have-ended : (board : Board) (start : State) (reads : List ReadParts) (parts : List Part)
    (ends : List (Result Part NoMemory)) → length ends ≡ length parts
    → ((i : ℕ) (d : Part) (e : Result Part NoMemory) → i < length parts
    → EndsOf board start reads (get_or parts i d) (get_or ends i e))
    → HaveEnded board start reads (map role_of parts) ends
have-ended board start reads [] [] len each = tt
have-ended board start reads [] (e ∷ ends) len each = absurd (omega arith)
have-ended board start reads (p ∷ parts) [] len each = absurd (omega arith)
have-ended board start reads (p ∷ parts) (e ∷ ends) len each = (
  each 0 p e (omega arith),
  have-ended board start reads parts ends (omega arith)
      (λ i d r less. each (suc i) d r (omega arith)),
)

-- the next of some ends whose roles count up
pub next-ended : (board : Board) (start : State) (reads : List ReadParts) (f : ℕ → Role)
    (first n : ℕ) (rest : List Role) (ends : List (Result Part NoMemory)) → 1 ≤ n
    → HaveEnded board start reads (map f (range_with_len first n) ++ rest) ends
    → IsNextEnd board start reads (f first) ends
    × HaveEnded board start reads (map f (range_with_len (first + 1) (n - 1)) ++ rest)
    (drop 1 ends)
next-ended board start reads f first zero rest ends some h = absurd (omega arith)
next-ended board start reads f first (suc n) rest [] some h = absurd h
next-ended board start reads f first (suc n) rest (e ∷ ends) some h =
    let less : n ≡ suc n - 1 = omega arith in (
      h.0,
      subst
          (λ (m : ℕ). HaveEnded board start reads
          (map f (range_with_len (first + 1) m) ++ rest) ends)
          less h.1,
    )

-- none of them is left
pub none-ended : (board : Board) (start : State) (reads : List ReadParts) (f : ℕ → Role)
    (first n : ℕ) (rest : List Role) (ends : List (Result Part NoMemory)) → n ≡ 0
    → HaveEnded board start reads (map f (range_with_len first n) ++ rest) ends
    → HaveEnded board start reads rest ends
none-ended board start reads f first n rest ends none h =
    subst (λ (m : ℕ). HaveEnded board start reads (map f (range_with_len first m) ++ rest) ends)
    none h

-- the number that a role has
abbrev pub number_in : Role → ℕ
number_in (roles.Primary n) = n
number_in roles.Scheduler = 0
number_in (roles.Worker n) = n
number_in roles.Snapshot = 0
number_in (roles.Session n) = n

-- what is said of an end, at another name of it
pub ended-as : (board : Board) (start : State) (reads : List ReadParts) (role : Role) (p q : Part)
    → p ≡ q → (role_of p ≡ role) × Plays board start reads p → (role_of q ≡ role)
    × Plays board start reads q
ended-as board start reads role p q same h =
    subst (λ (x : Part). (role_of x ≡ role) × Plays board start reads x) same h
