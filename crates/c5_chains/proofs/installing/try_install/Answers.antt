use Rattle.std.proofs.Common.{arith}
use Rattle.c5_definitions.specs.WriteNumbers.{IsWrite}
use Rattle.c5_board.specs.Boards.{names}
use Rattle.c5_chains.proofs.Behind.{behind_on, follows}
use Rattle.c5_chains.proofs.installing.try_install.Goals as goal

pub returns-in-Ok-clause-cause : goal.returns-in-Ok-clause-cause
returns-in-Ok-clause-cause c =
    let most = c.place-place.ensures.sound.scheduled in
    let write : IsWrite (names c.args.pass.now.board) c.args.w =
    record { positive = c.requires.write.0; within = omega (arith, c.requires.write.1) } in
    follows c.args.pass.now _ _ _ c.args.w _ c.requires.pass
    (c.number_law.ensures.predecessors (names c.args.pass.now.board))
    c.load_record-link.ensures.pass c.load_record-link.ensures.record write
    c.in-Ok.ensures.covers

pub returns-in-Err-clause-cause : goal.returns-in-Err-clause-cause
returns-in-Err-clause-cause c =
    let most = c.place-place.ensures.sound.scheduled in
    let write : IsWrite (names c.args.pass.now.board) c.args.w =
    record { positive = c.requires.write.0; within = omega (arith, c.requires.write.1) } in
    behind_on c.args.pass.now _ _ _ c.args.w c.in-Err.seen _ c.requires.pass
    (c.number_law.ensures.predecessors (names c.args.pass.now.board))
    c.load_record-link.ensures.pass c.load_record-link.ensures.record write
    c.in-Err.ensures.seen.0 c.in-Err.ensures.seen.1 c.in-Err.ensures.covers
