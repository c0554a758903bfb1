-- The counts of a lawful log can be written.
use Rattle.std.proofs.Common.{◌<◌, ◌^◌, List, [], ◌∷◌, length, All}
use Rattle.std.specs.List.{AllByRecursion}
use Rattle.std.proofs.lemmas.List.Elements.{All-from_recursion}
use Rattle.c5_rows.specs.declared.tables.TableDef.{TableDef}
use Rattle.c5_rows.specs.declared.writes.Txn.{Txn}
use Rattle.c5_definitions.specs.Lawful.{IsLawfulLog, IsLawfulTxn}

each_fits : (tables : List TableDef) (txns : List Txn) → AllByRecursion (IsLawfulTxn tables) txns
    → AllByRecursion (λ (txn : Txn). length txn.writes < 2 ^ 32) txns
each_fits tables [] h = tt
each_fits tables (txn ∷ txns) h = (h.0.count, each_fits tables txns h.1)

-- each transaction of a lawful log has fewer than 2^32 writes
pub counts_fit : (tables : List TableDef) (txns : List Txn) → IsLawfulLog tables txns
    → All (λ (txn : Txn). length txn.writes < 2 ^ 32) txns
counts_fit tables txns lawful =
    All-from_recursion (λ (txn : Txn). length txn.writes < 2 ^ 32) txns
    (each_fits tables txns lawful.each_txn)
