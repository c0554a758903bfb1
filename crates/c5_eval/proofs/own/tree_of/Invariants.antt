use Rattle.std.proofs.Common.{◌≡◌, ◌-◌, length, drop}
use Rattle.std.specs.BTreeMap.{IsOrdered}
use Rattle.c5_rows.specs.Order.{row_name_cmp}
use Rattle.c5_eval.specs.Setting.{pairs_of, set_by}
use Rattle.c5_eval.proofs.own.tree_of.Given as goal

-- the last writes have been taken
abbrev pub invariant-loop-done : goal.invariant-loop-done
invariant-loop-done l = record {
  ordered : IsOrdered row_name_cmp l.tree;
  same : set_by l.tree.entries ≡ set_by (pairs_of (drop (length l.writes - l.done) l.writes));
}
