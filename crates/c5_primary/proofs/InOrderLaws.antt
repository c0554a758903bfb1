-- Bodies that run in the order of their numbers are a serial run.
use Rattle.std.proofs.Common.{◌≡◌, ◌≤◌, ◌<◌, ◌+◌, ◌^◌, ◌∙◌, ℕ, zero, suc, List, [], ◌∷◌, ◌++◌}
use Rattle.std.proofs.Common.{length, get_or, drop, append_assoc, refl, ap, sym, subst, arith}
use Rattle.std.specs.List.{range_with_len}
use Rattle.std.specs.List.Sorted.{IsPermutation}
use Rattle.std.proofs.lemmas.List.FromFn.{length-range_with_len}
use Rattle.std.proofs.lemmas.List.Sorted.{IsPermutation-refl}
use Rattle.std.proofs.Math.Seq.{drop-cons}
use Rattle.c5_rows.specs.State.{State, after_writes, after_txns}
use Rattle.c5_rows.specs.declared.writes.Txn.{Txn}
use Rattle.c5_definitions.specs.declared.script.Statement.{Statement}
use Rattle.c5_definitions.specs.Eval.{eval}
use Rattle.c5_definitions.specs.Lawful.{StampsRise}
use Rattle.c5_definitions.specs.SerialRun.{body_at, body_txn, serial_txns_from, serial_txns}
use Rattle.c5_definitions.specs.SerialRun.{script_numbers, AreAlike, SerialRun}
use Rattle.c5_primary.proofs.LatestLaws.{after_txns-push}
use Rattle.c5_primary.specs.InOrder.{in_order}

-- ---- bodies by their numbers

abbrev head_or : {X : Type 0} → X → List X → X
head_or d [] = d
head_or d (x ∷ xs) = x

abbrev tail : {X : Type 0} → List X → List X
tail [] = []
tail (x ∷ xs) = xs

abbrev IsNothing : {X : Type 0} → List X → Type 0
IsNothing [] = Unit {0}
IsNothing (x ∷ xs) = ⊥

pub at_drop : {X : Type 0} (all : List X) (n : ℕ) (x : X) (rest : List X) (d : X)
    → drop n all ≡ x ∷ rest → (get_or all n d ≡ x) × (drop (suc n) all ≡ rest)
at_drop [] zero x rest d e = absurd (subst IsNothing e tt)
at_drop [] (suc n) x rest d e = absurd (subst IsNothing e tt)
at_drop (y ∷ ys) zero x rest d e = (ap (head_or d) e, ap tail e)
at_drop (y ∷ ys) (suc n) x rest d e = at_drop ys n x rest d e

serial_txns-in_order : (all rest : List (List Statement)) (n : ℕ) (state : State)
    → drop n all ≡ rest → in_order n rest state
    ≡ serial_txns_from (n + 1) all state (range_with_len n (length rest))
serial_txns-in_order all [] n state e = refl
serial_txns-in_order all (body ∷ rest) n state e =
    let here = at_drop all n body rest [] e in
    let next : n + 1 ≡ suc n = omega arith in
    let later : drop (n + 1) all ≡ rest = ap (λ (k : ℕ). drop k all) next ∙ here.1 in
    let left = serial_txns-in_order all rest (n + 1)
    (after_writes (eval body state).writes state) later in
    ap (λ (txns : List Txn). body_txn n (n + 1) body state ∷ txns) left
    ∙ ap (λ (b : List Statement). body_txn n (n + 1) b state
    ∷ serial_txns_from (n + 1 + 1) all (after_writes (eval b state).writes state)
    (range_with_len (n + 1) (length rest))) (sym here.0)

-- before the first transaction all are to come
pub all-to-come : (start : State) (bodies : List (List Statement)) (txns : List Txn) → txns ≡ []
    → txns ++ in_order 0 bodies (after_txns txns start) ≡ in_order 0 bodies start
all-to-come start bodies txns none = rw none refl

-- one more transaction, and those that are still to come
pub one-more : (start : State) (bodies : List (List Statement)) (n : ℕ) (d : List Statement)
    (txns all : List Txn) (txn : Txn) → n < length bodies
    → txn ≡ body_txn n (n + 1) (get_or bodies n d) (after_txns txns start) →
    txns ++ in_order n (drop n bodies) (after_txns txns start) ≡ all
    → (txns ++ txn ∷ []) ++ in_order (n + 1) (drop (n + 1) bodies)
    (after_txns (txns ++ txn ∷ []) start) ≡ all
one-more start bodies n d txns all txn lt is so_far =
    let state : State = after_txns txns start in
    let next : n + 1 ≡ suc n = omega arith in
    let rest = drop (n + 1) bodies in
    let here : drop n bodies ≡ get_or bodies n d ∷ rest =
    drop-cons bodies n d lt ∙ ap (λ (m : ℕ). get_or bodies n d ∷ drop m bodies) (sym next) in
    ap (λ (s : State). (txns ++ txn ∷ []) ++ in_order (n + 1) rest s)
    (after_txns-push txns txn start)
    ∙ append_assoc txns (txn ∷ []) (in_order (n + 1) rest (after_writes txn.writes state))
    ∙ ap (λ (t : Txn). txns ++ t ∷ in_order (n + 1) rest (after_writes t.writes state)) is
    ∙ ap (λ (bs : List (List Statement)). txns ++ in_order n bs state) (sym here)
    ∙ so_far

-- ---- serial runs

numbers-serial_txns_from : (bodies : List (List Statement)) (numbers : List ℕ) (stamp : ℕ)
    (state : State) → script_numbers (serial_txns_from stamp bodies state numbers) ≡ numbers
numbers-serial_txns_from bodies [] stamp state = refl
numbers-serial_txns_from bodies (number ∷ numbers) stamp state =
    ap (λ (ns : List ℕ). number ∷ ns)
    (numbers-serial_txns_from bodies numbers (stamp + 1)
    (after_writes (eval (body_at bodies number) state).writes state))

alike_itself : (txns : List Txn) → AreAlike txns txns
alike_itself [] = tt
alike_itself (txn ∷ txns) = ((refl, refl), alike_itself txns)

stamps_rise : (bodies : List (List Statement)) (numbers : List ℕ) (last : ℕ) (state : State)
    → last + length numbers < 2 ^ 64
    → StampsRise last (serial_txns_from (last + 1) bodies state numbers)
stamps_rise bodies [] last state few = tt
stamps_rise bodies (number ∷ numbers) last state few = (
  omega arith,
  omega arith,
  stamps_rise bodies numbers (last + 1)
      (after_writes (eval (body_at bodies number) state).writes state) (omega arith),
)

serial_txns-serial : (bodies : List (List Statement)) (state : State) → length bodies ≤ 65536
    → SerialRun bodies state (serial_txns bodies state (range_with_len 0 (length bodies)))
serial_txns-serial bodies state few =
    let numbers = range_with_len 0 (length bodies) in
    let same : script_numbers (serial_txns bodies state numbers) ≡ numbers =
    numbers-serial_txns_from bodies numbers 1 state in
    let count = length-range_with_len 0 (length bodies) in
    record {
      each_once = subst (IsPermutation numbers) (sym same) (IsPermutation-refl numbers);
      stamps = stamps_rise bodies numbers 0 state (omega arith);
      alike = subst
          (λ (ns : List ℕ). AreAlike (serial_txns bodies state numbers)
          (serial_txns bodies state ns)) (sym same)
          (alike_itself (serial_txns bodies state numbers));
    }

-- ---- what the contract says

pub in_order-serial_txns : (bodies : List (List Statement)) (state : State)
    → in_order 0 bodies state ≡ serial_txns bodies state (range_with_len 0 (length bodies))
in_order-serial_txns bodies state = serial_txns-in_order bodies bodies 0 state refl

pub in_order-serial : (bodies : List (List Statement)) (state : State) → length bodies ≤ 65536
    → SerialRun bodies state (in_order 0 bodies state)
in_order-serial bodies state few =
    subst (SerialRun bodies state) (sym (in_order-serial_txns bodies state))
    (serial_txns-serial bodies state few)
