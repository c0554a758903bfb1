use Rattle.std.proofs.Common.{◌+◌, ◌-◌, length, sym, ◌∙◌, arith}
use Rattle.c5_frames.specs.Payloads.{name_of}
use Rattle.c5_frames.specs.DecoderStates.{tables_of}
use Rattle.c5_frames.proofs.Tracking.{HasRoom-less}
use Rattle.c5_frames.proofs.Ready.{Takes, tracks, least-size, ready-written, fault-order}
use Rattle.c5_frames.proofs.frames.take_write.Goals as goal

pub is_above_last-requires-clause-index : goal.is_above_last-requires-clause-index
is_above_last-requires-clause-index c =
    let t = c.requires.ready.tracks in
    (tables_of c.args.p.now.schema, t.txns, t.writes, t.index)

pub returns-then-not-is_above_last-clause-fault : goal.returns-then-not-is_above_last-clause-fault
returns-then-not-is_above_last-clause-fault c =
    let h : Takes c.args.bytes.now c.args.p.now c.args.size =
    record { ready = c.requires.ready; stage = c.requires.stage; whole = c.requires.whole } in
    let t = tracks c.args.bytes.now c.args.p.now c.args.size h in
    fault-order c.args.bytes.now c.args.p.now c.args.size (name_of c.args.name) h c.requires.shown
    (sym (c.is_above_last.ensures (tables_of c.args.p.now.schema) t.txns t.writes t.index) ∙
    c.if-not-is_above_last.true)

pub add_place-requires : goal.add_place-requires
add_place-requires c =
    let h : Takes c.args.bytes.now c.args.p.now c.args.size =
    record { ready = c.requires.ready; stage = c.requires.stage; whole = c.requires.whole } in
    let least = least-size c.args.bytes.now c.args.p.now c.args.size h in
    let room = c.requires.ready.room.places in
    omega arith

pub returns-clause-further : goal.returns-clause-further
returns-clause-further c =
    let h : Takes c.args.bytes.now c.args.p.now c.args.size =
    record { ready = c.requires.ready; stage = c.requires.stage; whole = c.requires.whole } in
    omega (arith, least-size c.args.bytes.now c.args.p.now c.args.size h)

pub returns-clause-ready : goal.returns-clause-ready
returns-clause-ready c =
    let h : Takes c.args.bytes.now c.args.p.now c.args.size =
    record { ready = c.requires.ready; stage = c.requires.stage; whole = c.requires.whole } in
    let t = tracks c.args.bytes.now c.args.p.now c.args.size h in
    let least = least-size c.args.bytes.now c.args.p.now c.args.size h in
    let behind = length c.args.bytes.now - (c.args.p.now.at + c.args.size) in
    let room = c.add_place.ensures.room behind
    (HasRoom-less (length c.args.bytes.now - c.args.p.now.at) (behind + 5) c.args.p.now.index
    (omega arith) c.requires.ready.room) in
    ready-written c.args.bytes.now c.args.p.now c.args.size
    (name_of c.args.name) c.add_place.new.self h c.requires.shown
    (sym (c.is_above_last.ensures (tables_of c.args.p.now.schema) t.txns t.writes t.index) ∙
    c.if-not-is_above_last.false) c.add_place.ensures.added room
