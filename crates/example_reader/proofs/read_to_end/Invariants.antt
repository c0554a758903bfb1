use Rattle.std.proofs.Common.{◌≡◌}
use Rattle.std.specs.FinMap.{empty}
use Rattle.example_reader.proofs.read_to_end.Given as goal

abbrev pub invariant-loop : goal.invariant-loop
invariant-loop g l = record {
  board : l.pass.board ≡ l.board;
  session : l.session ≡ record { session = l.read.session; start = empty };
}
