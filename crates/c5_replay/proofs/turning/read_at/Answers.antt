use Rattle.c5_replay.proofs.StepLemmas.{read-taken-at, session-at}
use Rattle.c5_replay.proofs.turning.read_at.Goals as goal

pub take_next-requires-clause-taken : goal.take_next-requires-clause-taken
take_next-requires-clause-taken c =
    session-at c.args.pass.now c.args.shared.now.start.now c.args.shared.now.reads.now
    c.args.sessions.now c.args.place _ c.requires.sessions c.requires.place

pub returns : goal.returns
returns c =
    let e = c.in_ok-take_next.ensures {u = tt} in
    read-taken-at c.args.pass.now c.take_next.new.pass c.args.shared.now.start.now
    c.args.shared.now.reads.now c.args.sessions.now c.args.place _ c.take_next.new.session
    c.requires.place e.session e.taken e.places e.pass
