use Rattle.std.proofs.Common.{take}
use Rattle.std.specs.List.{All}
use Rattle.c5_order.specs.Marks.{IsUnread}
use Rattle.c5_order.proofs.marks.find_reader.Given as goal

abbrev pub invariant-loop-write : goal.invariant-loop-write
invariant-loop-write l = All (IsUnread l.versions l.stamp) (take l.write-index l.writes)
