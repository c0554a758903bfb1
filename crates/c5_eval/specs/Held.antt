-- Changes that are held as writes, or in a tree.
use Rattle.std.specs.Prelude.{List, Option, Some, None}
use Rattle.std.specs.BTreeMap.{BTreeMap, IsOrdered}
use Rattle.c5_rows.specs.declared.writes.RowName.{RowName}
use Rattle.c5_rows.specs.declared.writes.Change.{Change}
use Rattle.c5_rows.specs.declared.writes.Write.{Write}
use Rattle.c5_rows.specs.Order.{row_name_cmp}
use Rattle.c5_eval.specs.Setting.{pairs_of}

-- the changes in the tree if there is one, else those of the writes
abbrev pub held_by : List Write → Option (BTreeMap RowName Change) → List (RowName × Change)
held_by writes None = pairs_of writes
held_by writes (Some tree) = tree.entries

abbrev pub IsOrderedIn : Option (BTreeMap RowName Change) → Type 0
IsOrderedIn None = Unit {0}
IsOrderedIn (Some tree) = IsOrdered row_name_cmp tree
