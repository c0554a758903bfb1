use Rattle.std.proofs.Common.{◌≡◌, ◌++◌, map}
use Rattle.c5_definitions.specs.Follows.{own_writes}
use Rattle.c5_eval.specs.Setting.{set_by}
use Rattle.c5_eval.proofs.OwnLemmas.{write_at}
use Rattle.c5_eval.proofs.own.writes_of.Given as goal

-- the writes so far and those to come are all of them
abbrev pub invariant-loop-name : goal.invariant-loop-name
invariant-loop-name l = l.writes ++ map write_at l.name-iterator
    ≡ own_writes (set_by l.tree.entries)
