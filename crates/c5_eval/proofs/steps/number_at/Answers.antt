use Rattle.std.proofs.Common.{rules, [], refl}
use Rattle.c5_eval.specs.Setting.{row_made}
use Rattle.c5_eval.proofs.steps.number_at.Goals as goal

pub returns-in-Some-clause-found : goal.returns-in-Some-clause-found
returns-in-Some-clause-found g c = (
  [],
  search rules,
  row_made c.in-Some.change.now,
  rw (← c.in-Some.ensures) (refl, refl),
  c.number_made.ensures,
)
