-- How taking a line may end.
use Rattle.std.specs.Prelude.{◌≡◌, Result, Ok, Err}
use Rattle.c5_definitions.specs.declared.script.ScriptKind.{ScriptKind}
use Rattle.c5_script.specs.declared.fault.LineError.{LineError}
use Rattle.c5_script.specs.declared.fault.LineError.TheVariants as errors

-- the kind that stopped the step is the one that reading gives; nothing is said of out of memory
abbrev pub Fails : {Y : Type 0} → LineError → Result Y ScriptKind → Type 0
Fails errors.NoMemory read = Unit {0}
Fails (errors.Fault kind) read = read ≡ Err kind

-- what a step gave, seen by view, is what reading gives, or the step failed as reading does
abbrev pub StepsTo : {X Y : Type 0} → (X → Y) → Result X LineError → Result Y ScriptKind → Type 0
StepsTo view (Ok x) read = read ≡ Ok (view x)
StepsTo view (Err error) read = Fails error read
