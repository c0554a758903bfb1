-- What the law of logs says of lists of bytes.
use Rattle.std.specs.Prelude.{◌≡◌, ◌≢◌, ◌↔◌, ◌<◌, ◌≤◌, ◌^◌, ℕ, List, [], ◌++◌, length, All, Some}
use Rattle.std.specs.Prelude.{None, Ok, Err}
use Rattle.c5_rows.specs.declared.tables.TableDef.{TableDef}
use Rattle.c5_rows.specs.declared.writes.Txn.{Txn}
use Rattle.c5_definitions.specs.declared.fault.LogKind.TheVariants as kinds
use Rattle.c5_definitions.specs.declared.fault.LogFault.{LogFault}
use Rattle.c5_definitions.specs.Lawful.{Spells}
use Rattle.c5_definitions.specs.Items.{Reading, begin_of, after_bytes, at_start, log_of}
use Rattle.c5_definitions.specs.Items.{log_fault_of}

-- each number is a byte
abbrev pub AreOctets : List ℕ → Type 0
AreOctets bytes = All (λ byte. byte < 2 ^ 8) bytes

-- some tables and transactions have this spelling
abbrev pub IsLog : List ℕ → Type 0
IsLog bytes = (tables : List TableDef) × (txns : List Txn) × Spells bytes tables txns

-- bytes have no fault if and only if they are a log
abbrev pub FaultlessAreLogs : Type 0
FaultlessAreLogs = (bytes : List ℕ) → AreOctets bytes → (log_fault_of bytes ≡ None) ↔ IsLog bytes

-- what is read of bytes is what they spell
abbrev pub LogsAreRead : Type 0
LogsAreRead = (bytes : List ℕ) (tables : List TableDef) (txns : List Txn) → AreOctets bytes
    → (log_of bytes ≡ Ok (record { tables = tables; txns = txns })) ↔ Spells bytes tables txns

-- the same bytes spell one list of tables and one list of transactions
abbrev pub LogsAreUnique : Type 0
LogsAreUnique = (bytes : List ℕ) (tables others : List TableDef) (txns more : List Txn)
    → Spells bytes tables txns → Spells bytes others more → (tables ≡ others) × (txns ≡ more)

-- nothing can follow a log that makes a log of both
abbrev pub LogsAreNoPrefixes : Type 0
LogsAreNoPrefixes = (prefix rest : List ℕ) → IsLog prefix → IsLog (prefix ++ rest) → rest ≡ []

-- a fault other than missing bytes stays, whatever follows
abbrev pub FaultsStay : Type 0
FaultsStay = (prefix rest : List ℕ) (fault : LogFault) → log_fault_of prefix ≡ Some fault
    → fault.kind ≢ kinds.Cut
    → log_fault_of (prefix ++ rest) ≡ Some fault

-- reading that has met a fault reports it whatever follows, before the end and at it
abbrev pub FaultsAreFinal : Type 0
FaultsAreFinal = (prefix rest : List ℕ) (fault : LogFault) → after_bytes at_start prefix ≡ Err fault
    → (after_bytes at_start (prefix ++ rest) ≡ Err fault) × (log_of (prefix ++ rest) ≡ Err fault)

-- a proper prefix of a log is cut at the first item that isn't whole in it
abbrev pub PrefixesAreCut : Type 0
PrefixesAreCut = (prefix rest : List ℕ) → AreOctets prefix → IsLog (prefix ++ rest) → rest ≢ []
    → (r : Reading) × (after_bytes at_start prefix ≡ Ok r)
    × (log_fault_of prefix ≡ Some
    (record { offset = begin_of r.so_far.next r.offset; kind = kinds.Cut }))

-- bytes after a log are the fault, at the log's length
abbrev pub NothingFollowsLogs : Type 0
NothingFollowsLogs = (log rest : List ℕ) → IsLog log → rest ≢ []
    → log_fault_of (log ++ rest) ≡ Some (record { offset = length log; kind = kinds.After })

-- a fault is at one of the bytes, or right after the last one
abbrev pub FaultsAreWithin : Type 0
FaultsAreWithin = (bytes : List ℕ) (fault : LogFault) → log_fault_of bytes ≡ Some fault
    → fault.offset ≤ length bytes
