use Rattle.std.proofs.Common.{◌≡◌, ◌∙◌, List, [], ◌∷◌, Some, None, refl, ap}
use Rattle.std.specs.Prelude.{pos, codes}
use Rattle.c5_rows.specs.State.{State, after_writes}
use Rattle.c5_definitions.specs.declared.script.Statement.{Statement}
use Rattle.c5_definitions.specs.declared.script.Statement.TheVariants.{Put, Add}
use Rattle.c5_definitions.specs.Eval.{Ending, eval}
use Rattle.c5_definitions.specs.WorkedRuns.{at, int_row, start, put_of, declined, wrote}
use Rattle.c5_definitions.proofs.Runs.{got, single, set_is}
use Rattle.c5_definitions.proofs.worked.worked_serial_runs.Goals as goal

abbrev put : Statement
put = Put (at (codes "c")) (int_row (pos 7))

abbrev add : Statement
add = Add (at (codes "c")) 0 (pos 1)

abbrev second : List Statement → State → Ending → Ending
second body state first = eval body (after_writes first.writes state)

pub returns-clause-in_order : goal.returns-clause-in_order
returns-clause-in_order c =
    let first : eval (put ∷ []) start ≡ wrote (put_of (codes "c") (pos 7) ∷ []) =
    single put start None refl in
    let then : second (add ∷ []) start (wrote (put_of (codes "c") (pos 7) ∷ []))
    ≡ wrote (put_of (codes "c") (pos 8) ∷ []) =
    single add (after_writes (put_of (codes "c") (pos 7) ∷ []) start) (Some (int_row (pos 7)))
    (set_is start (at (codes "c")) (Some (int_row (pos 7)))) in
    ap (λ (e : Ending). record { script = 0; stamp = 1; writes = e.writes }
    ∷ record { script = 1; stamp = 2; writes = (second (add ∷ []) start e).writes } ∷ []) first
    ∙ ap (λ (e : Ending). record { script = 0; stamp = 1; writes = put_of (codes "c") (pos 7) ∷ [] }
    ∷ record { script = 1; stamp = 2; writes = e.writes } ∷ []) then

pub returns-clause-reversed : goal.returns-clause-reversed
returns-clause-reversed c =
    let first : eval (add ∷ []) start ≡ declined = single add start None (got (at (codes "c"))) in
    let then : second (put ∷ []) start declined ≡ wrote (put_of (codes "c") (pos 7) ∷ []) =
    single put start None refl in
    ap (λ (e : Ending). record { script = 1; stamp = 1; writes = e.writes }
    ∷ record { script = 0; stamp = 2; writes = (second (put ∷ []) start e).writes } ∷ []) first
    ∙ ap (λ (e : Ending). record { script = 1; stamp = 1; writes = [] }
    ∷ record { script = 0; stamp = 2; writes = e.writes } ∷ []) then
