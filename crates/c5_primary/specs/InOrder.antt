-- Bodies that run in the order of their numbers.
use Rattle.std.specs.Prelude.{◌+◌, ℕ, List, [], ◌∷◌}
use Rattle.c5_rows.specs.State.{State, after_writes}
use Rattle.c5_rows.specs.declared.writes.Txn.{Txn}
use Rattle.c5_definitions.specs.declared.script.Statement.{Statement}
use Rattle.c5_definitions.specs.Eval.{eval}
use Rattle.c5_definitions.specs.SerialRun.{body_txn}

-- the transactions of bodies whose numbers count on from n; each stamp is one more than the number
abbrev pub in_order : ℕ → List (List Statement) → State → List Txn
in_order n [] state = []
in_order n (body ∷ bodies) state =
    body_txn n (n + 1) body state
    ∷ in_order (n + 1) bodies (after_writes (eval body state).writes state)
