-- The first limit that a script exceeds, from the counts of its bodies.
use Rattle.std.proofs.Common.{◌≡◌, ◌<◌, ◌≤◌, ◌∙◌, Option, Some, None, length, List, refl, sym, ap}
use Rattle.std.proofs.lemmas.Bool.{lt-ltb, le-ltb}
use Rattle.c5_rows.specs.Sizes.{max_transactions, max_writes, max_rows}
use Rattle.c5_definitions.specs.ScriptParts.{ScriptParts}
use Rattle.c5_definitions.specs.Limits.{write_statements, written_row_count, AreWithinLimits}
use Rattle.c5_definitions.specs.Limits.{excess_in, excess_of}
use Rattle.c5_definitions.specs.declared.script.Statement.{Statement}
use Rattle.c5_definitions.specs.declared.limits.Excess.{Excess}
use Rattle.c5_definitions.specs.declared.limits.Excess.TheVariants.{Transactions, Writes, Rows}

abbrev excess_with : List (List Statement) → Option Excess
excess_with bodies = excess_in (length bodies) (write_statements bodies) (written_row_count bodies)

excess-same : (script : ScriptParts) (bodies : List (List Statement)) → bodies ≡ script.bodies
    → (out : Option Excess) → excess_with bodies ≡ out → out ≡ excess_of script
unfolding excess_of
excess-same script bodies same out is = sym is ∙ ap excess_with same

pub no-excess : (script : ScriptParts) (bodies : List (List Statement)) → bodies ≡ script.bodies
    → AreWithinLimits bodies → None ≡ excess_of script
no-excess script bodies same within =
    excess-same script bodies same None
    (rw (
      le-ltb max_transactions (length bodies) within.transactions,
      le-ltb max_writes (write_statements bodies) within.writes,
      le-ltb max_rows (written_row_count bodies) within.rows,
    ) refl)

pub too-many-transactions : (script : ScriptParts) (bodies : List (List Statement))
    → bodies ≡ script.bodies → max_transactions < length bodies
    → Some Transactions ≡ excess_of script
too-many-transactions script bodies same more =
    excess-same script bodies same (Some Transactions)
    (rw (lt-ltb max_transactions (length bodies) more) refl)

pub too-many-writes : (script : ScriptParts) (bodies : List (List Statement))
    → bodies ≡ script.bodies → length bodies ≤ max_transactions
    → max_writes < write_statements bodies → Some Writes ≡ excess_of script
too-many-writes script bodies same few more =
    excess-same script bodies same (Some Writes)
    (rw (
      le-ltb max_transactions (length bodies) few,
      lt-ltb max_writes (write_statements bodies) more,
    ) refl)

pub too-many-rows : (script : ScriptParts) (bodies : List (List Statement)) → bodies ≡ script.bodies
    → length bodies ≤ max_transactions → write_statements bodies ≤ max_writes
    → max_rows < written_row_count bodies → Some Rows ≡ excess_of script
too-many-rows script bodies same few writes more =
    excess-same script bodies same (Some Rows)
    (rw (
      le-ltb max_transactions (length bodies) few,
      le-ltb max_writes (write_statements bodies) writes,
      lt-ltb max_rows (written_row_count bodies) more,
    ) refl)
