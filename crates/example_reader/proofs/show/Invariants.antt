use Rattle.std.proofs.Common.{◌≡◌, true}
use Rattle.example_reader.proofs.show.Given as goal

abbrev pub invariant-loop : goal.invariant-loop
invariant-loop g l = record { board : l.pass.board ≡ l.board; role : l.pass.snapshot ≡ true }
