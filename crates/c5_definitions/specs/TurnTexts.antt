-- What `turns` prints: what `clone` prints, for the run in the order of the script's bodies and the
-- places of its schedule, and how many writes were put off.
use Rattle.std.specs.Prelude.{ℕ, List, [], ◌∷◌, ◌++◌, codes, length}
use Rattle.std.specs.List.{range_with_len}
use Rattle.c5_rows.specs.declared.writes.Txn.{Txn}
use Rattle.c5_definitions.specs.Outputs.{clone_text, no_rows, number_text}
use Rattle.c5_definitions.specs.ScriptParts.{ScriptParts}
use Rattle.c5_definitions.specs.SerialRun.{serial_txns}
use Rattle.c5_definitions.specs.Turns.{TurnRun, turn_run}

-- the line of how many writes were put off
abbrev pub put_off_text : ℕ → List ℕ
put_off_text count = codes "put_off" ++ number_text count ++ 10 ∷ []

-- the numbers of the bodies, ascending
abbrev pub numbers_of_bodies : ScriptParts → List ℕ
numbers_of_bodies script = range_with_len 0 (length script.bodies)

-- the transactions of the bodies, run in the order of their numbers
abbrev pub txns_in_number_order : ScriptParts → List Txn
txns_in_number_order script = serial_txns script.bodies no_rows (numbers_of_bodies script)

-- the script's schedule over a log of these transactions, with so many workers
abbrev pub schedule_run : ScriptParts → List Txn → ℕ → TurnRun
schedule_run script txns workers = turn_run txns workers script.reads script.turns

-- the clone of the script by a run of its schedule, and the run's count of writes put off
abbrev pub text_of_schedule : ScriptParts → TurnRun → List ℕ
text_of_schedule script run =
    clone_text script (numbers_of_bodies script) run.places ++ put_off_text run.put_off

-- what `turns` prints with so many workers
abbrev pub turns_text : ScriptParts → ℕ → List ℕ
turns_text script workers =
    text_of_schedule script (schedule_run script (txns_in_number_order script) workers)
