use Rattle.std.proofs.Common.{ap}
use Rattle.c5_eval.specs.Reader.{rows_read, names_asked}
use Rattle.c5_eval.proofs.OnStates.{answered_since}
use Rattle.c5_eval.proofs.ReadBlocks.{answers_same}
use Rattle.c5_eval.proofs.over_rows.answer_rows.Goals as goal

pub returns-in-Ok : goal.returns-in-Ok
returns-in-Ok g c =
    let state = g.L.LookUpRows.state in
    let made = c.new-reader.result in
    let reader = c.answer.new.rows in
    let answered = c.in-Ok.ensures.answered in
    answers_same c.args.read.now (state c.args.rows.now) answered.0 c.in-Ok.answer answered.2
    (answered_since (state c.args.rows.now) (state (rows_read made)) (state (rows_read reader))
    (names_asked made) (names_asked reader) answered.0
    (ap state c.new-reader.ensures.rows) c.new-reader.ensures.asked c.answer.ensures.base
    answered.1)
