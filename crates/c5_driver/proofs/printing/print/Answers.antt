use Rattle.std.proofs.Common.{◌∙◌}
use Rattle.c5_driver.proofs.Prefixes.{appends_kept, whole_is_prefix, rose-later}
use Rattle.c5_driver.proofs.printing.print.Goals as goal

pub returns-in-Ok-finish : goal.returns-in-Ok-finish
returns-in-Ok-finish g c =
    let held = g.K.Sink.held in
    record {
      written = appends_kept (held c.args.sink.now) (held c.write_all.new.sink)
          (held c.finish.new.sink) c.args.text.now c.in-Ok.ensures.ok c.finish.ensures.kept;
      flushed = c.in-Ok-finish.ensures.flushed;
      faultless = c.in-Ok-finish.ensures.cause.kept ∙ c.in-Ok.ensures.cause.kept;
    }

pub returns-in-Err-finish : goal.returns-in-Err-finish
returns-in-Err-finish g c =
    let held = g.K.Sink.held in
    let faults = g.K.Sink.faults in
    record {
      written = whole_is_prefix _ _ _
          (appends_kept (held c.args.sink.now) (held c.write_all.new.sink)
          (held c.finish.new.sink) c.args.text.now c.in-Ok.ensures.ok c.finish.ensures.kept);
      failed = rose-later (faults c.args.sink.now) (faults c.write_all.new.sink)
          (faults c.finish.new.sink) c.in-Ok.ensures.cause.kept
          c.in-Err-finish.ensures.cause.failed;
    }
