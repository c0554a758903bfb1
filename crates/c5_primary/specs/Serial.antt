-- What every serial run of a script within its limits is.
use Rattle.std.specs.Prelude.{◌≡◌, ◌≤◌, ◌+◌, ◌*◌, ℕ, List, length, map}
use Rattle.std.specs.List.{flat_map, sum_by}
use Rattle.std.specs.Set.{distinct_count}
use Rattle.std.specs.Ordering.{eq_by_cmp}
use Rattle.c5_rows.specs.Order.{row_name_cmp}
use Rattle.c5_rows.specs.Sizes.{max_transactions, max_writes}
use Rattle.c5_rows.specs.State.{State}
use Rattle.c5_rows.specs.declared.writes.RowName.{RowName}
use Rattle.c5_rows.specs.declared.writes.Txn.{Txn}
use Rattle.c5_definitions.specs.FitsScript.{IsScript}
use Rattle.c5_definitions.specs.FitsState.{StateFits}
use Rattle.c5_definitions.specs.Lawful.{IsLawfulLog}
use Rattle.c5_definitions.specs.Limits.{AreWithinLimits, write_statements, written_row_count}
use Rattle.c5_definitions.specs.ScriptParts.{ScriptParts}
use Rattle.c5_definitions.specs.SerialRun.{SerialRun}
use Rattle.c5_definitions.specs.Spelling.{spelled_log}

-- the number of writes of transactions
abbrev pub total_writes : List Txn → ℕ
total_writes txns = sum_by (λ txn. length txn.writes) txns

-- the names of the rows that transactions write, one for each write
abbrev pub row_names : List Txn → List RowName
row_names txns = flat_map (λ txn. map (λ write. write.name) txn.writes) txns

-- the number of different rows that transactions write
abbrev pub total_rows : List Txn → ℕ
total_rows txns = distinct_count (eq_by_cmp row_name_cmp) (row_names txns)

-- the bytes of the longest log of a script within its limits: 421 of a header, 304 of each write,
-- 21 of each commit mark and 9 of the end mark
abbrev pub max_run_log_bytes : ℕ
max_run_log_bytes = 421 + 304 * max_writes + 21 * max_transactions + 9

-- a lawful log of one transaction for each body, with at most as many writes and rows as the bodies
pub record IsLogWithin (script : ScriptParts) (txns : List Txn) : Type 0 where
  pub lawful : IsLawfulLog script.tables txns
  pub transactions : length txns ≡ length script.bodies
  pub writes : total_writes txns ≤ write_statements script.bodies
  pub rows : total_rows txns ≤ written_row_count script.bodies
  pub bytes : length (spelled_log script.tables txns) ≤ max_run_log_bytes

-- from rows that fit the tables, every serial run of a script within its limits is such a log
abbrev pub EveryRunIsWithin : Type 0
EveryRunIsWithin =
    (script : ScriptParts) (rows : State) (txns : List Txn) → IsScript script
    → AreWithinLimits script.bodies → StateFits script.tables rows
    → SerialRun script.bodies rows txns → IsLogWithin script txns
