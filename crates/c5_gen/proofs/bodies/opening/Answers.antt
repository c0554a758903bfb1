use Rattle.std.proofs.Common.{List, ◌∷◌, ◌++◌, [], length, ap, ap₂, ◌∙◌, sym, arith}
use Rattle.c5_definitions.specs.declared.script.Statement.{Statement}
use Rattle.c5_definitions.specs.declared.script.Statement.TheVariants.{Put}
use Rattle.c5_gen.proofs.Growing.{puts-more, puts-length}
use Rattle.c5_gen.proofs.bodies.opening.Goals as goal

pub push-requires : goal.push-requires
push-requires c =
    omega (arith, ap length c.loop-number.invariant, puts-length c.loop-number.number)

pub loop-number-preserved : goal.loop-number-preserved
loop-number-preserved c =
    c.in_ok-push.ensures.ok
    ∙ ap₂ (λ (body : List Statement) (put : Statement). body ++ put ∷ []) c.loop-number.invariant
    (ap₂ Put c.account_row-name.ensures c.opening_row-row.ensures)
    ∙ sym (puts-more c.loop-number.number)
