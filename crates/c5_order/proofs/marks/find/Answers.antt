use Rattle.c5_order.proofs.MarkLemmas.{start-first, found-some, found-none}
use Rattle.c5_order.proofs.marks.find.Goals as goal

pub range-requires : goal.range-requires
range-requires c = start-first c.args.name.now c.args.stamp

pub returns-in-Some : goal.returns-in-Some
returns-in-Some c =
    found-some c.args.versions.now c.args.name.now c.args.stamp c.range.result c.next_back.new.self
    c.in-Some.key.now c.in-Some.read_by.now (c.range.ensures.in_range tt) c.in-Some.ensures.steps

pub returns-in-None : goal.returns-in-None
returns-in-None c = found-none c.args.versions.now c.args.name.now c.args.stamp c.range.result
    (c.range.ensures.in_range tt) c.in-None.ensures.steps.0 c.requires
