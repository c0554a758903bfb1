use Rattle.std.proofs.Common.{◌≡◌, drop}
use Rattle.std.specs.BTreeMap.{IsOrdered}
use Rattle.c5_rows.specs.declared.writes.RowName.{RowName}
use Rattle.c5_rows.specs.Order.{row_name_cmp}
use Rattle.c5_primary.specs.Latest.{noted, place_at}
use Rattle.c5_primary.proofs.latest.note_writes.Given as goal

-- with the writes that are left all are noted
abbrev pub invariant-loop-write : goal.invariant-loop-write
invariant-loop-write l = record {
  ordered : IsOrdered row_name_cmp l.places;
  noted : (name : RowName) → noted (drop l.write-index l.writes) l.place name
      (place_at l.places.entries name)
      ≡ noted l.writes l.place name (place_at l.fn.places.entries name);
}
