use Rattle.std.proofs.Common.{◌≡◌}
use Rattle.c5_replay.proofs.FinishLemmas.{all-roles, finished}
use Rattle.c5_replay.proofs.finishing.finish_all.Goals as goal

pub finish-requires-clause-roles : goal.finish-requires-clause-roles
finish-requires-clause-roles c =
    all-roles c.args.shared.now.board.now c.args.shared.now.start.now c.args.shared.now.reads.now
    c.args.pass.now c.args.workers.now c.args.replies.now c.requires.joined

pub returns : goal.returns
returns c = record {
  finished =
      finished c.args.shared.now.board.now c.args.shared.now.start.now c.args.shared.now.reads.now
      c.args.replies.now c.args.workers.now c.args.pass.now c.finish.new.pass c.advance.new.pass
      c.advance.result.place c.advance.result.least
      (c.number_law.ensures.places c.args.shared.now.board.now.log.txns) c.requires.joined
      c.finish.ensures.pass c.advance.ensures.pass c.advance.ensures.loads
      c.advance.ensures.least c.advance.ensures.place;
}
