use Rattle.std.proofs.Common.{◌≡◌, ◌+◌, ◌-◌, ◌++◌, [], map}
use Rattle.std.specs.List.{range_with_len}
use Rattle.c5_io.specs.declared.gate.Role.TheVariants as roles
use Rattle.c5_replay.specs.Parts.{IsPassWith, HaveEnded, worker_roles}
use Rattle.c5_replay.specs.Joins.{IsJoined, HaveReplied}
use Rattle.c5_replay.proofs.joining.join_sessions.Given as goal

abbrev pub invariant-loop-before : goal.invariant-loop-before
invariant-loop-before l = record {
  pass : IsPassWith l.shared.board.now [] l.pass;
  joined : IsJoined l.fn.pass l.pass;
  replied : HaveReplied l.pass l.shared.start.now l.shared.reads.now l.before l.replies;
  ends : HaveEnded l.shared.board.now l.shared.start.now l.shared.reads.now
      (map roles.Session (range_with_len (l.before + 1) (l.sessions - l.before))
      ++ worker_roles l.shared.board.now.workers) l.ends.items;
}
