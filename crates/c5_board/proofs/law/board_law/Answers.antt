use Rattle.c5_board.proofs.LawProofs.{board_is_lawful}
use Rattle.c5_board.proofs.law.board_law.Goals as goal

pub returns : goal.returns
returns c = board_is_lawful
