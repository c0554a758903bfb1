-- What bodies leave that run one after the other.
use Rattle.std.specs.Prelude.{◌≡◌, ◌+◌, ℕ, List, [], ◌∷◌, length, map, slice_index_or}
use Rattle.std.specs.List.{AllZip, range_with_len}
use Rattle.std.specs.List.Sorted.{IsPermutation}
use Rattle.c5_rows.specs.declared.writes.Txn.{Txn}
use Rattle.c5_rows.specs.State.{State, after_writes}
use Rattle.c5_definitions.specs.declared.script.Statement.{Statement}
use Rattle.c5_definitions.specs.Eval.{eval}
use Rattle.c5_definitions.specs.Lawful.{StampsRise}

-- the body of this number; one without statements if there is none
abbrev pub body_at : List (List Statement) → ℕ → List Statement
body_at bodies number = slice_index_or bodies number []

-- the transaction that a body makes on a state
abbrev pub body_txn : ℕ → ℕ → List Statement → State → Txn
body_txn number stamp body state =
    record { script = number; stamp = stamp; writes = (eval body state).writes }

-- the bodies of these numbers, each on what those before it left; the stamps count on from this one
abbrev pub serial_txns_from : ℕ → List (List Statement) → State → List ℕ → List Txn
serial_txns_from stamp bodies state [] = []
serial_txns_from stamp bodies state (number ∷ numbers) =
    body_txn number stamp (body_at bodies number) state
    ∷ serial_txns_from (stamp + 1) bodies
    (after_writes (eval (body_at bodies number) state).writes state) numbers

-- the bodies of these numbers, one after the other, with the stamps 1, 2, 3 and so on
abbrev pub serial_txns : List (List Statement) → State → List ℕ → List Txn
serial_txns bodies state numbers = serial_txns_from 1 bodies state numbers

-- the script numbers of transactions
abbrev pub script_numbers : List Txn → List ℕ
script_numbers txns = map (λ txn. txn.script) txns

-- transactions that differ in their stamps alone
abbrev pub AreAlike : List Txn → List Txn → Type 0
AreAlike these those = AllZip (λ a b. (a.script ≡ b.script) × (a.writes ≡ b.writes)) these those

-- every body once, with stamps that strictly ascend from at least 1, and the writes of a run in
-- this order
pub record SerialRun (bodies : List (List Statement)) (state : State)
    (txns : List Txn) : Type 0 where
  pub each_once : IsPermutation (range_with_len 0 (length bodies)) (script_numbers txns)
  pub stamps : StampsRise 0 txns
  pub alike : AreAlike txns (serial_txns bodies state (script_numbers txns))
