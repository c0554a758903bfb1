use Rattle.std.proofs.Common.{ap, sym}
use Rattle.c5_definitions.specs.Eval.{Ending}
use Rattle.c5_eval.proofs.OnStates.{ends_on_rows}
use Rattle.c5_eval.specs.Reader.{rows_read, names_asked}
use Rattle.c5_eval.proofs.over_rows.evaluate_rows.Goals as goal

pub returns-in-Ok-clause-declined : goal.returns-in-Ok-clause-declined
returns-in-Ok-clause-declined g c =
    let state = g.L.LookUpRows.state in
    let made = c.new-reader.result in
    let reader = c.evaluate.new.rows in
    let follows = c.in-Ok.ensures.follows in
    sym (ap (λ (e : Ending). e.declined)
    (ends_on_rows c.args.body.now (state c.args.rows.now) (state (rows_read made))
    (state (rows_read reader)) (names_asked made)
    (names_asked reader) follows.0 c.in-Ok.outcome.declined c.in-Ok.outcome.writes follows.2
    (ap state c.new-reader.ensures.rows) c.new-reader.ensures.asked c.evaluate.ensures.base
    follows.1))

pub returns-in-Ok-clause-writes : goal.returns-in-Ok-clause-writes
returns-in-Ok-clause-writes g c =
    let state = g.L.LookUpRows.state in
    let made = c.new-reader.result in
    let reader = c.evaluate.new.rows in
    let follows = c.in-Ok.ensures.follows in
    sym (ap (λ (e : Ending). e.writes)
    (ends_on_rows c.args.body.now (state c.args.rows.now) (state (rows_read made))
    (state (rows_read reader)) (names_asked made)
    (names_asked reader) follows.0 c.in-Ok.outcome.declined c.in-Ok.outcome.writes follows.2
    (ap state c.new-reader.ensures.rows) c.new-reader.ensures.asked c.evaluate.ensures.base
    follows.1))
