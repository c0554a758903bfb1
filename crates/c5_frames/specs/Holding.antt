-- Bytes that are a log, and an index of it.
use Rattle.std.specs.Prelude.{◌≡◌, ◌≤◌, ◌*◌, ℕ, List, [], length, Ok, Err}
use Rattle.c5_rows.specs.Sizes.{max_log_bytes}
use Rattle.c5_rows.specs.declared.tables.TableDef.{TableDef}
use Rattle.c5_rows.specs.declared.writes.Txn.{Txn}
use Rattle.c5_definitions.specs.Items.{log_of}
use Rattle.c5_frames.specs.declared.index.Index.{Index}
use Rattle.c5_frames.specs.Index.{found_in, IsIndex}

-- the transactions that bytes are the log of
abbrev pub txns_in : List ℕ → List Txn
txns_in bytes = elim (log_of bytes) [ Ok log ↦ log.txns | Err fault ↦ [] ]

-- the bytes are a log of these tables, whose frames lie where the index says
pub record HoldsLog (bytes : List ℕ) (tables : List TableDef) (index : Index) : Type 0 where
  pub log : log_of bytes ≡ Ok (record { tables = tables; txns = txns_in bytes })
  pub found : IsIndex bytes tables (found_in index) (txns_in bytes) []
  pub few_places : 5 * length index.places.items ≤ length bytes
  pub few_txns : 5 * length index.txns.items ≤ length bytes
  pub small : length bytes ≤ max_log_bytes
