use Rattle.std.proofs.Common.{sym, ◌∙◌, arith}
use Rattle.c5_frames.proofs.Ready.{Takes, closed-within, least-size, ready-ended, fault-open}
use Rattle.c5_frames.proofs.Ready.{fault-end}
use Rattle.c5_frames.proofs.frames.take_end.Goals as goal

pub open-requires-clause-closed : goal.open-requires-clause-closed
open-requires-clause-closed c = closed-within c.args.bytes.now c.args.p.now c.requires.ready

pub returns-then-open-ne0-clause-fault : goal.returns-then-open-ne0-clause-fault
returns-then-open-ne0-clause-fault c =
    let h : Takes c.args.bytes.now c.args.p.now c.args.size =
    record { ready = c.requires.ready; stage = c.requires.stage; whole = c.requires.whole } in
    fault-open c.args.bytes.now c.args.p.now c.args.size c.args.count h c.requires.shown
    (λ none. c.if-open-ne0.true (c.open.ensures ∙ none))

pub returns-then-len-count-clause-fault : goal.returns-then-len-count-clause-fault
returns-then-len-count-clause-fault c =
    let h : Takes c.args.bytes.now c.args.p.now c.args.size =
    record { ready = c.requires.ready; stage = c.requires.stage; whole = c.requires.whole } in
    fault-end c.args.bytes.now c.args.p.now c.args.size c.args.count h c.requires.shown
    (sym c.open.ensures ∙ c.if-open-ne0.false)
    (λ same. c.if-len-count.true (omega (arith, same)))

pub returns-clause-further : goal.returns-clause-further
returns-clause-further c =
    let h : Takes c.args.bytes.now c.args.p.now c.args.size =
    record { ready = c.requires.ready; stage = c.requires.stage; whole = c.requires.whole } in
    omega (arith, least-size c.args.bytes.now c.args.p.now c.args.size h)

pub returns-clause-ready : goal.returns-clause-ready
returns-clause-ready c =
    let h : Takes c.args.bytes.now c.args.p.now c.args.size =
    record { ready = c.requires.ready; stage = c.requires.stage; whole = c.requires.whole } in
    ready-ended c.args.bytes.now c.args.p.now c.args.size c.args.count h c.requires.shown
    (sym c.open.ensures ∙ c.if-open-ne0.false) (omega arith)
