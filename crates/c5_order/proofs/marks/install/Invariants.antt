use Rattle.std.proofs.Common.{◌≡◌, ◌-◌, length, drop}
use Rattle.c5_order.specs.declared.marks.VersionKey.{VersionKey as Key}
use Rattle.c5_order.specs.Marks.{noted_mark, mark_after_install}
use Rattle.c5_order.proofs.marks.install.Given as goal

abbrev pub invariant-loop-done : goal.invariant-loop-done
invariant-loop-done l = (q : Key) → noted_mark l.versions q
    ≡ mark_after_install l.stamp (drop (length l.writes - l.done) l.writes) q
    (noted_mark l.initial.versions q)
