use Rattle.std.proofs.Common.{◌+◌, ◌-◌, length, sym, ◌∙◌, arith}
use Rattle.c5_frames.specs.Payloads.{numbers_of}
use Rattle.c5_frames.proofs.Tracking.{HasRoom-less}
use Rattle.c5_frames.proofs.Ready.{Takes, closed-within, least-size, ready-marked, fault-stamp}
use Rattle.c5_frames.proofs.Ready.{fault-count}
use Rattle.c5_frames.proofs.frames.take_mark.Goals as goal

pub returns-then-mark-p-clause-fault : goal.returns-then-mark-p-clause-fault
returns-then-mark-p-clause-fault c =
    let h : Takes c.args.bytes.now c.args.p.now c.args.size =
    record { ready = c.requires.ready; stage = c.requires.stage; whole = c.requires.whole } in
    fault-stamp c.args.bytes.now c.args.p.now c.args.size
    (numbers_of c.args.mark) h c.requires.shown c.if-mark-p.true

pub open-requires-clause-closed : goal.open-requires-clause-closed
open-requires-clause-closed c = closed-within c.args.bytes.now c.args.p.now c.requires.ready

pub returns-then-mark-open-clause-fault : goal.returns-then-mark-open-clause-fault
returns-then-mark-open-clause-fault c =
    let h : Takes c.args.bytes.now c.args.p.now c.args.size =
    record { ready = c.requires.ready; stage = c.requires.stage; whole = c.requires.whole } in
    fault-count c.args.bytes.now c.args.p.now c.args.size
    (numbers_of c.args.mark) h c.requires.shown c.if-mark-p.false
    (λ same. c.if-mark-open.true (same ∙ sym c.open.ensures))

pub add_txn-requires-clause-room : goal.add_txn-requires-clause-room
add_txn-requires-clause-room c =
    let h : Takes c.args.bytes.now c.args.p.now c.args.size =
    record { ready = c.requires.ready; stage = c.requires.stage; whole = c.requires.whole } in
    let least = least-size c.args.bytes.now c.args.p.now c.args.size h in
    let room = c.requires.ready.room.txns in
    omega arith

pub add_txn-requires-clause-closed : goal.add_txn-requires-clause-closed
add_txn-requires-clause-closed c = closed-within c.args.bytes.now c.args.p.now c.requires.ready

pub returns-clause-further : goal.returns-clause-further
returns-clause-further c =
    let h : Takes c.args.bytes.now c.args.p.now c.args.size =
    record { ready = c.requires.ready; stage = c.requires.stage; whole = c.requires.whole } in
    omega (arith, least-size c.args.bytes.now c.args.p.now c.args.size h)

pub returns-clause-ready : goal.returns-clause-ready
returns-clause-ready c =
    let h : Takes c.args.bytes.now c.args.p.now c.args.size =
    record { ready = c.requires.ready; stage = c.requires.stage; whole = c.requires.whole } in
    let least = least-size c.args.bytes.now c.args.p.now c.args.size h in
    let behind = length c.args.bytes.now - (c.args.p.now.at + c.args.size) in
    let room = c.add_txn.ensures.room behind
    (HasRoom-less (length c.args.bytes.now - c.args.p.now.at) (behind + 5) c.args.p.now.index
    (omega arith) c.requires.ready.room) in
    ready-marked c.args.bytes.now c.args.p.now c.args.size
    (numbers_of c.args.mark) c.add_txn.new.self h c.requires.shown c.if-mark-p.false
    (c.if-mark-open.false ∙ c.open.ensures) c.add_txn.ensures.added room
