use Rattle.std.proofs.Common.{refl, arith, rules}
use Rattle.c5_definitions.proofs.outputs.worked_replies.Goals as goal

pub returns : goal.returns
returns c = record {
  order = refl;
  rising = record { one_each = refl; within = search rules; never_fall = search rules };
  falling = λ lawful. omega (arith, lawful.never_fall.1.0.0 refl);
  too_late = λ lawful. omega (arith, lawful.within.0);
}
