use Rattle.std.proofs.Common.{List, ◌∷◌, ◌++◌, [], refl, ap, ap₂, ◌∙◌, sym, ◌≡◌}
use Rattle.c5_definitions.specs.declared.script.Statement.{Statement}
use Rattle.c5_definitions.specs.Generated.{generated_tables, draw}
use Rattle.c5_definitions.specs.ScriptParts.{ScriptParts}
use Rattle.c5_gen.proofs.Growing.{bodies-more, moved-is, draw-next, draw-before}
use Rattle.c5_gen.proofs.script.push_bodies.Goals as goal

-- a script with one more body
abbrev with_body : ScriptParts → List Statement → ScriptParts
with_body s body = record {
  tables = s.tables;
  bodies = s.bodies ++ body ∷ [];
  reads = s.reads;
  turns = s.turns;
}

abbrev of_bodies : List (List Statement) → ScriptParts
of_bodies bodies = record { tables = generated_tables; bodies = bodies; reads = []; turns = [] }

pub loop-number-init : goal.loop-number-init
unfolding draw
loop-number-init c =
    (c.in_ok-push_body.ensures.ok ∙ ap₂ with_body c.requires.empty c.in_ok-opening.ensures, refl)

pub loop-number-preserved : goal.loop-number-preserved
loop-number-preserved c =
    let drawn : c.draw_after-draw.result ≡ draw c.loop-number.number =
    draw-next c.draw_after-draw.result c.loop-number.draw c.loop-number.number
    c.loop-number.auto.number c.draw_after-draw.ensures c.loop-number.invariant.1 in (
      c.in_ok-push_body-2.ensures.ok
          ∙ ap₂ with_body c.loop-number.invariant.0
          (c.in_ok-transfer.ensures
          ∙ moved-is c.move_of.result.from c.move_of.result.to c.move_of.result.amount
          c.draw_after-draw.result c.loop-number.number c.move_of.ensures.from c.move_of.ensures.to
          c.move_of.ensures.amount drawn)
          ∙ ap of_bodies (sym (bodies-more c.loop-number.number c.loop-number.auto.number)),
      drawn ∙ draw-before c.loop-number.number,
    )
