use Rattle.std.proofs.Common.{◌≡◌, ◌*◌, drop}
use Rattle.std.specs.Cmp.Lexicographic.{slice_cmp}
use Rattle.std.specs.Ordering.{nat_cmp}
use Rattle.c5_rows.proofs.byte_order.order.Given as goal

-- the words so far are the same
abbrev pub invariant-loop-place : goal.invariant-loop-place
invariant-loop-place l = slice_cmp nat_cmp l.a l.b
    ≡ slice_cmp nat_cmp (drop (8 * l.place) l.a) (drop (8 * l.place) l.b)
