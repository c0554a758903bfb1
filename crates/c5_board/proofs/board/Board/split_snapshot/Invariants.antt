use Rattle.c5_board.specs.Views.{spent_view}
use Rattle.c5_board.proofs.board.Board.split_snapshot.Given as goal

abbrev pub ghosts-cut : goal.ghosts-cut
ghosts-cut a = record {
  taken = record { worker = a.worker; snapshot = a.snapshot; scheduler = a.scheduler };
  spent = spent_view a.self.now.log a.self.now.workers;
}
