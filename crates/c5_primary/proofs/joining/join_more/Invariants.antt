use Rattle.std.proofs.Common.{◌≡◌, ◌++◌, vec_len}
use Rattle.std.specs.Prelude.{IsOk}
use Rattle.std.specs.List.{All, flat_map}
use Rattle.turn_slot.specs.Passes.{numbers, IsPassOf}
use Rattle.c5_primary.specs.Jobs.{AreDoneOf, done_numbers}
use Rattle.c5_primary.proofs.joining.join_more.Given as goal

abbrev pub decreases-loop-next : goal.decreases-loop-next
decreases-loop-next l = vec_len l.done

abbrev pub invariant-loop-next : goal.invariant-loop-next
invariant-loop-next l = record {
  pass : IsPassOf l.slot l.all;
  done : AreDoneOf l.slot l.done.items;
  numbers : flat_map done_numbers l.done.items ++ numbers l.all
      ≡ flat_map done_numbers l.initial.done.items ++ numbers l.initial.all;
  ok : All IsOk l.done.items → All IsOk l.initial.done.items;
}
