-- The log of a run is short enough to be spelled.
use Rattle.std.proofs.Common.{◌<◌, ◌^◌, List, length}
use Rattle.std.specs.List.{All}
use Rattle.std.proofs.lemmas.List.Elements.{All-weaker, All-from_recursion}
use Rattle.c5_rows.specs.declared.tables.TableDef.{TableDef}
use Rattle.c5_rows.specs.declared.writes.Txn.{Txn}
use Rattle.c5_definitions.specs.Lawful.{IsLawfulLog, IsLawfulTxn}

pub short-txns : (tables : List TableDef) (txns : List Txn) → IsLawfulLog tables txns
    → All (λ (txn : Txn). length txn.writes < 2 ^ 32) txns
short-txns tables txns lawful =
    All-weaker (IsLawfulTxn tables) (λ (txn : Txn). length txn.writes < 2 ^ 32)
    (λ txn is. is.count) txns
    (All-from_recursion (IsLawfulTxn tables) txns lawful.each_txn)
