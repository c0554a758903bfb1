use Rattle.std.proofs.Common.{◌≡◌, ◌++◌, ◌+◌, ◌-◌, [], map}
use Rattle.std.specs.List.{range_with_len}
use Rattle.c5_rows.specs.State.{State}
use Rattle.c5_rows.specs.Numbers.{numbers_from}
use Rattle.c5_io.specs.declared.gate.Role.TheVariants as roles
use Rattle.c5_replay.specs.Parts.{IsPassWith, ArePlaying, role_of}
use Rattle.c5_replay.proofs.splitting.add_workers.Given as goal

abbrev pub invariant-loop-before : goal.invariant-loop-before
invariant-loop-before l = record {
  pass : IsPassWith l.board (numbers_from (l.before + 1) (l.board.workers - l.before)) l.pass;
  none : l.pass.installed ≡ [];
  parts : (start : State) → ArePlaying l.board start l.fn.parts.items
      → ArePlaying l.board start l.parts.items;
  roles : map role_of l.parts.items ≡ map role_of l.fn.parts.items
      ++ map roles.Worker (range_with_len 1 l.before);
}
