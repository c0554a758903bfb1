use Rattle.std.proofs.Common.{List, ℕ, subst}
use Rattle.std.specs.Prelude.{codes}
use Rattle.c5_driver.specs.Printed.{PrintsLine}
use Rattle.c5_driver.specs.Refusals.{place_line}
use Rattle.c5_driver.specs.Uses.{sink_use}
use Rattle.c5_driver.proofs.printing.refuse.Goals as goal

pub returns-in-BadScript-clause-line : goal.returns-in-BadScript-clause-line
returns-in-BadScript-clause-line g c =
    let sink = g.K.Sink in
    rw c.in-BadScript.is
    (subst (λ (ending : List ℕ). PrintsLine
    (sink_use sink.held sink.faults sink.flushed c.args.sink.now c.report_place.new.sink)
    (place_line (codes "bad script line ") c.in-BadScript.fault.line ending))
    c.ending_of_script.ensures c.report_place.ensures)

pub returns-in-BadLog-clause-line : goal.returns-in-BadLog-clause-line
returns-in-BadLog-clause-line g c =
    let sink = g.K.Sink in
    rw c.in-BadLog.is
    (subst (λ (ending : List ℕ). PrintsLine
    (sink_use sink.held sink.faults sink.flushed c.args.sink.now
    c.report_place-in-BadLog.new.sink)
    (place_line (codes "bad log at ") c.in-BadLog.fault.offset ending))
    c.ending_of_log.ensures c.report_place-in-BadLog.ensures)
