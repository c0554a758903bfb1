use Rattle.std.proofs.Common.{rules, [], refl, FitsSigned, w64, to_z-of_z}
use Rattle.c5_eval.specs.Setting.{row_made}
use Rattle.c5_eval.proofs.steps.add.Goals as goal

pub returns-in_ok-add_again-in-Some-clause-takes : goal.returns-in_ok-add_again-in-Some-clause-takes
returns-in_ok-add_again-in-Some-clause-takes g c =
    let fits : FitsSigned w64 c.args.n = c.ranges.n in
    let acts = simp to_z-of_z at c.in_ok-add_again-in-Some.ensures in
    ([], search rules, (row_made c.in-Some.change.now, rw (← c.in-Some.ensures) (refl, refl), acts))
