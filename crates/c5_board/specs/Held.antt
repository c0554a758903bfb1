-- How a board and a pass are held.
use Rattle.std.specs.Prelude.{◌≡◌, ◌≤◌}
use Rattle.c5_plan.specs.Sizes.{IsPlanned}
use Rattle.c5_board.specs.declared.board.Board.TheInside.{Inside}
use Rattle.c5_board.specs.Words.{writes_in, buckets_in, word_count}
use Rattle.c5_board.specs.Boards.{Board}
use Rattle.c5_rows.specs.Sizes.{max_workers}

abbrev pub board_of : Inside → Board
board_of b = record { table = b.table.shared.table_id; log = b.plan.now; workers = b.workers }

pub record IsBoard (b : Inside) : Type 0 where
  pub words : b.table.shared.table_id.words ≡ word_count b.plan.now b.workers
  pub slots : b.table.shared.table_id.slots ≡ 0
  pub log : b.table.shared.key.log.value ≡ b.plan.now
  pub same_workers : b.table.shared.key.workers ≡ b.workers
  pub planned : IsPlanned b.plan.now
  pub some : 1 ≤ b.workers
  pub at_most_sixteen : b.workers ≤ max_workers
  pub writes : b.writes ≡ writes_in b.plan.now
  pub buckets : b.buckets ≡ buckets_in b.plan.now
