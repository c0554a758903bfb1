use Rattle.std.proofs.Common.{◌∙◌}
use Rattle.c5_board.specs.Boards.{names}
use Rattle.c5_board.proofs.FirstWrite.{some_written, first_one}
use Rattle.c5_board.proofs.tests.read_first.Goals as goal

pub write-requires-clause-within : goal.write-requires-clause-within
write-requires-clause-within c =
    some_written c.args.board.now.log c.log.result.now
    (c.log.ensures.value ∙ c.plan.ensures.log) c.requires.some

pub load_head-head-requires-clause-row : goal.load_head-head-requires-clause-row
load_head-head-requires-clause-row c = first_one (names c.args.board.now) c.requires.some
