use Rattle.std.proofs.Common.{◌≡◌, ◌++◌, drop}
use Rattle.std.specs.Prelude.{codes}
use Rattle.c5_definitions.specs.Outputs.{numbers_text}
use Rattle.c5_text.proofs.order.order_text.Given as goal

-- what is written and the numbers that are left make the line
abbrev pub invariant-loop-script : goal.invariant-loop-script
invariant-loop-script l = l.text.items ++ numbers_text (drop l.script-index l.scripts)
    ≡ codes "order" ++ numbers_text l.scripts
