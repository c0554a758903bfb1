use Rattle.std.proofs.Common.{◌≡◌, ◌++◌, map}
use Rattle.std.specs.List.{range_with_len}
use Rattle.c5_rows.specs.State.{State}
use Rattle.c5_io.specs.declared.gate.Role.TheVariants as roles
use Rattle.c5_replay.specs.Parts.{ArePlaying, role_of}
use Rattle.c5_replay.proofs.splitting.add_sessions.Given as goal

abbrev pub invariant-loop-before : goal.invariant-loop-before
invariant-loop-before l = record {
  pass : l.pass ≡ l.fn.pass;
  parts : (start : State) → ArePlaying l.board start l.fn.parts.items
      → ArePlaying l.board start l.parts.items;
  roles : map role_of l.parts.items ≡ map role_of l.fn.parts.items
      ++ map roles.Session (range_with_len 1 l.before);
}
