use Rattle.std.proofs.Common.{◌∙◌, ap}
use Rattle.c5_definitions.specs.declared.history.OrderBase.{OrderBase}
use Rattle.c5_definitions.specs.History.{answered}
use Rattle.c5_primary.proofs.FinishLemmas.{only-open, after-read, read-opens-stamps, read-longer}
use Rattle.c5_primary.proofs.FinishLemmas.{read-held, read-answer}
use Rattle.c5_primary.proofs.held.HeldRowsReadRows.row.Goals as goal

pub read-requires : goal.read-requires
read-requires c = let rows = c.args.self.now in
    only-open rows.order.now.history rows.stamp rows.only

pub invariant_of-self : goal.invariant_of-self
invariant_of-self c =
    let rows = c.args.self.now in
    let order = rows.order.now in
    let o = only-open order.history rows.stamp rows.only in
    let r = after-read order c.read.new.self rows.stamp c.args.name.now o c.in-Ok.ensures.ok in
    record {
      only = read-opens-stamps order.history c.read.new.self.history o.0 rows.stamp c.args.name.now
          r.0 ∙ rows.only;
      longer = read-longer rows.before order.history c.read.new.self.history o.0 rows.stamp
          c.args.name.now r.0 rows.longer;
    }

pub returns-in-Ok-clause-base : goal.returns-in-Ok-clause-base
returns-in-Ok-clause-base c =
    let rows = c.args.self.now in
    let order = rows.order.now in
    let o = only-open order.history rows.stamp rows.only in
    let r = after-read order c.read.new.self rows.stamp c.args.name.now o c.in-Ok.ensures.ok in
    read-held rows.order.ghost_name rows.before order c.read.new.self o.0 rows.stamp c.args.name.now
    r.0 r.1 rows.longer

pub returns-in-Ok-clause-answered : goal.returns-in-Ok-clause-answered
returns-in-Ok-clause-answered c =
    let rows = c.args.self.now in
    let order = rows.order.now in
    let new = c.read.new.self in
    let o = only-open order.history rows.stamp rows.only in
    let r = after-read order new rows.stamp c.args.name.now o c.in-Ok.ensures.ok in
    ap (λ (b : OrderBase). answered b.start new.history rows.stamp) r.1
    ∙ read-answer order.base.start order.history new.history o.0 rows.stamp c.args.name.now
    c.in-Ok.row r.0 c.in-Ok.ensures.row
