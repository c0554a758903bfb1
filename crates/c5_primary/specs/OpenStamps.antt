-- The stamps of open transactions.
use Rattle.std.specs.Prelude.{ℕ, List, map}
use Rattle.c5_definitions.specs.declared.history.Entry.{Entry}
use Rattle.c5_definitions.specs.History.{open_txns}

abbrev pub open_stamps : List Entry → List ℕ
open_stamps history = map (λ b. b.stamp) (open_txns history)
