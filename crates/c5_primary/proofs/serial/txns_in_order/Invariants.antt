use Rattle.std.proofs.Common.{◌≡◌, ◌++◌, drop, length}
use Rattle.std.specs.BTreeMap.{IsOrdered}
use Rattle.c5_rows.specs.Order.{row_name_cmp}
use Rattle.c5_rows.specs.State.{after_txns}
use Rattle.c5_primary.specs.InOrder.{in_order}
use Rattle.c5_primary.specs.Latest.{LeadsToRows}
use Rattle.c5_primary.proofs.serial.txns_in_order.Given as goal

-- the places lead to the rows after the transactions so far, and with those of the bodies that are
-- left these are all
abbrev pub invariant-loop-number : goal.invariant-loop-number
invariant-loop-number l = record {
  count : length l.txns.items ≡ l.number;
  ordered : IsOrdered row_name_cmp l.places;
  leads : LeadsToRows l.fn.start l.txns.items l.places.entries;
  all : l.txns.items ++ in_order l.number (drop l.number l.bodies)
      (after_txns l.txns.items l.fn.start) ≡ in_order 0 l.bodies l.fn.start;
}
