-- How reading a script may end.
use Rattle.std.specs.Prelude.{◌≡◌, ℕ, Result, Ok, Err}
use Rattle.c5_definitions.specs.declared.script.ScriptFault.{ScriptFault}
use Rattle.c5_script.specs.declared.parsing.ParseFault.{ParseFault}
use Rattle.c5_script.specs.declared.parsing.ParseFault.TheVariants as faults
use Rattle.c5_script.specs.declared.fault.LineError.{LineError}
use Rattle.c5_script.specs.declared.fault.LineError.TheVariants as errors

-- the fault that stopped reading is the one that the bytes have; nothing is said of out of memory
abbrev pub ParseFails : {Y : Type 0} → ParseFault → Result Y ScriptFault → Type 0
ParseFails (faults.Bad fault) read = read ≡ Err fault
ParseFails faults.NoMemory read = Unit {0}

-- what was read, seen by view, is what the bytes are, or their fault is reported
abbrev pub ParsesTo : {X Y : Type 0} → (X → Y) → Result X ParseFault → Result Y ScriptFault → Type 0
ParsesTo view (Ok x) read = read ≡ Ok (view x)
ParsesTo view (Err fault) read = ParseFails fault read

-- why a line of this number was not taken
abbrev pub parse_fault_on : ℕ → LineError → ParseFault
parse_fault_on number (errors.Fault kind) = faults.Bad (record { line = number; kind = kind })
parse_fault_on number errors.NoMemory = faults.NoMemory
