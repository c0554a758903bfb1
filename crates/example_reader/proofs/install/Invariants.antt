use Rattle.std.proofs.Common.{◌≡◌}
use Rattle.c5_workers.specs.Work.{FitsWorker}
use Rattle.example_reader.proofs.install.Given as goal

abbrev pub invariant-loop : goal.invariant-loop
invariant-loop g l = record { board : l.pass.board ≡ l.board; fits : FitsWorker l.worker l.pass }
