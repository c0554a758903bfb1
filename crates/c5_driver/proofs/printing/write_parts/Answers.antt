use Rattle.std.proofs.KnownBytes.{Appends-trans}
use Rattle.std.specs.Prelude.{◌++◌}
use Rattle.c5_driver.proofs.Prefixes.{whole_is_prefix, prefix_in_second, prefix_in_last}
use Rattle.c5_driver.proofs.printing.write_parts.Goals as goal

pub returns-in_err-write_all-2-clause-written : goal.returns-in_err-write_all-2-clause-written
returns-in_err-write_all-2-clause-written g c =
    let held = g.K.Sink.held in
    prefix_in_second (held c.args.sink.now) (held c.write_all.new.sink)
    (held c.write_all-2.new.sink) c.args.start.now c.args.middle.now c.args.ending.now
    c.in_ok-write_all.ensures.ok c.in_err-write_all-2.ensures.err

pub returns-in_err-write_all-3-clause-written : goal.returns-in_err-write_all-3-clause-written
returns-in_err-write_all-3-clause-written g c =
    let held = g.K.Sink.held in
    let first = Appends-trans (held c.args.sink.now) (held c.write_all.new.sink)
    (held c.write_all-2.new.sink) c.args.start.now c.args.middle.now
    c.in_ok-write_all.ensures.ok c.in_ok-write_all-2.ensures.ok in
    prefix_in_last (held c.args.sink.now) (held c.write_all-2.new.sink)
    (held c.write_all-3.new.sink)
    (c.args.start.now ++ c.args.middle.now) c.args.ending.now first
    c.in_err-write_all-3.ensures.err

pub returns-clause-written : goal.returns-clause-written
returns-clause-written g c =
    let held = g.K.Sink.held in
    let first = Appends-trans (held c.args.sink.now) (held c.write_all.new.sink)
    (held c.write_all-2.new.sink) c.args.start.now c.args.middle.now
    c.in_ok-write_all.ensures.ok c.in_ok-write_all-2.ensures.ok in
    whole_is_prefix _ _ _
    (Appends-trans (held c.args.sink.now) (held c.write_all-2.new.sink)
    (held c.write_all-3.new.sink)
    (c.args.start.now ++ c.args.middle.now) c.args.ending.now first
    c.in_ok-write_all-3.ensures.ok)
