-- The number of the rows of a map.
use Rattle.std.proofs.Common.{◌≡◌, ◌∙◌, sym, length}
use Rattle.std.proofs.lemmas.List.{length-map}
use Rattle.std.specs.FinMap.{entries, len, len-entries}
use Rattle.c5_rows.specs.State.{State, entry_of, rows_of}

pub count_is : (state : State) → len state ≡ length (rows_of state)
count_is state = len-entries state ∙ sym (length-map (entries state) entry_of)
