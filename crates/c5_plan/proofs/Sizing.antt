-- The number of names is the number of writes.
use Rattle.std.proofs.Common.{◌≡◌, List, length}
use Rattle.std.proofs.lemmas.List.{length-map}
use Rattle.c5_rows.specs.declared.writes.Write.{Write}
use Rattle.c5_rows.specs.declared.writes.Txn.{Txn}
use Rattle.c5_definitions.specs.WriteNumbers.{names_in}
use Rattle.c5_frames.specs.Index.{writes_of}

pub length-names_in : (txns : List Txn) → length (names_in txns) ≡ length (writes_of txns)
unfolding names_in
length-names_in txns = length-map (writes_of txns) (λ (w : Write). w.name)

pub ruleset sizes = length-names_in
