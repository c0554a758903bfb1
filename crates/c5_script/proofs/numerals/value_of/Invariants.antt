use Rattle.std.proofs.Common.{◌≡◌, ◌<◌, ◌^◌, drop}
use Rattle.c5_definitions.specs.Numerals.{digits_after}
use Rattle.c5_script.proofs.numerals.value_of.Given as goal

-- the digits left lead to the number of them all, which is still small
abbrev pub invariant-loop-digit : goal.invariant-loop-digit
invariant-loop-digit l =
    record {
      number : digits_after l.n (drop l.digit-index l.digits) ≡ digits_after 0 l.digits;
      small : l.n < 10 ^ l.digit-index;
    }
