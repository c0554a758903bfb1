use Rattle.std.proofs.Common.{◌∙◌, sym, arith}
use Rattle.c5_script.proofs.Digits.{digit_at, digits-more, below-more, below_19, digits-all}
use Rattle.c5_script.proofs.numerals.value_of.Goals as goal

pub overflow_mul-n : goal.overflow_mul-n
overflow_mul-n c =
    omega (
      arith,
      below_19 c.loop-digit.n c.loop-digit.digit-index c.loop-digit.invariant.small
          (omega arith),
    )

pub overflow_add-n : goal.overflow_add-n
overflow_add-n c =
    let at = digit_at c.args.digits.now c.loop-digit.digit-index c.requires.digits
    c.loop-digit-test.true in
    omega (
      arith,
      at,
      below_19 c.loop-digit.n c.loop-digit.digit-index c.loop-digit.invariant.small
          (omega arith),
    )

pub loop-digit-preserved : goal.loop-digit-preserved
loop-digit-preserved c =
    let at = digit_at c.args.digits.now c.loop-digit.digit-index c.requires.digits
    c.loop-digit-test.true in
    record {
      number = rw c.from.ensures
          (sym (digits-more c.loop-digit.n c.loop-digit.digit-index c.args.digits.now
          c.loop-digit-test.true) ∙ c.loop-digit.invariant.number);
      small = below-more c.loop-digit.n c.loop-digit.digit-index c.from.result
          c.loop-digit.invariant.small (omega (arith, at));
    }

pub returns : goal.returns
returns c =
    sym (digits-all c.loop-digit.n c.loop-digit.digit-index c.args.digits.now
    c.loop-digit-test.false) ∙ c.loop-digit.invariant.number
