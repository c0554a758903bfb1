use Rattle.std.proofs.Common.{◌∙◌, arith}
use Rattle.c5_driver.proofs.Prefixes.{appends_kept, whole_is_prefix, flushed-unless}
use Rattle.c5_driver.proofs.printing.report.Goals as goal

pub returns-in-Ok : goal.returns-in-Ok
returns-in-Ok g c =
    let held = g.K.Sink.held in
    let grew = appends_kept (held c.args.sink.now) (held c.write_all.new.sink)
    (held c.finish.new.sink) c.args.line.now c.in-Ok.ensures.ok c.finish.ensures.kept in
    let first = c.write_all.ensures.cause.later in
    let second = c.finish.ensures.cause.later in
    let faults = g.K.Sink.faults in
    record {
      written = whole_is_prefix _ _ _ grew;
      whole = λ _. grew;
      flushed = λ _ calm. c.finish.ensures.flushed ∙ flushed-unless c.finish.result
          (faults c.args.sink.now) (faults c.write_all.new.sink)
          (faults c.finish.new.sink) c.in-Ok.ensures.cause.kept c.finish.ensures.cause.failed calm;
      later = omega arith;
    }
