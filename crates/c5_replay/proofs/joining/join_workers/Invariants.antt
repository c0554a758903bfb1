use Rattle.std.proofs.Common.{◌≡◌, ◌+◌, ◌-◌, ◌++◌, [], map}
use Rattle.std.specs.List.{range_with_len}
use Rattle.c5_io.specs.declared.gate.Role.TheVariants as roles
use Rattle.c5_replay.specs.Parts.{HaveEnded}
use Rattle.c5_replay.specs.Joins.{IsJoined, HaveWorked}
use Rattle.c5_replay.proofs.joining.join_workers.Given as goal

abbrev pub invariant-loop-before : goal.invariant-loop-before
invariant-loop-before l = record {
  worked : HaveWorked l.shared.board.now l.pass l.before l.workers.items;
  joined : IsJoined l.fn.pass l.pass;
  ends : HaveEnded l.shared.board.now l.shared.start.now l.shared.reads.now
      (map roles.Worker (range_with_len (l.before + 1) (l.shared.board.now.workers - l.before))
      ++ []) l.ends.items;
}
