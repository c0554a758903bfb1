use Rattle.std.proofs.Common.{◌≡◌, ◌+◌, ◌-◌, ◌++◌, length}
use Rattle.c5_rows.specs.Numbers.{numbers_from}
use Rattle.c5_board.proofs.opening.extend_numbers.Given as goal

abbrev pub invariant-loop-i : goal.invariant-loop-i
invariant-loop-i l = record {
  items : l.words.items ++ numbers_from l.i (l.count + 1 - l.i)
      ≡ l.initial.words.items ++ numbers_from 1 l.count;
  length : length l.words.items + 1 ≡ length l.initial.words.items + l.i;
}
