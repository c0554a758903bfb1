use Rattle.std.proofs.Common.{false}
use Rattle.c5_board.specs.Views.{spent_view}
use Rattle.c5_board.proofs.board.Board.join.Given as goal

abbrev pub ghosts-unite : goal.ghosts-unite
ghosts-unite a = record {
  taken = record { worker = 0; snapshot = false; scheduler = false };
  spent = spent_view a.self.now.log a.self.now.workers;
}
