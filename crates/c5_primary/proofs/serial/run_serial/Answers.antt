use Rattle.std.proofs.Common.{◌≡◌, ◌∙◌, List, ap, sym, subst}
use Rattle.std.specs.FinMap.{empty}
use Rattle.c5_rows.specs.State.{State}
use Rattle.c5_definitions.specs.declared.script.Statement.{Statement}
use Rattle.c5_definitions.specs.SerialRun.{SerialRun}
use Rattle.c5_primary.specs.InOrder.{in_order}
use Rattle.c5_primary.proofs.InOrderLaws.{in_order-serial_txns, in_order-serial}
use Rattle.c5_primary.proofs.serial.run_serial.Goals as goal

pub returns : goal.returns
returns c =
    let bodies = c.args.script.now.bodies in
    let none : State = empty in
    let made : c.in_ok-txns.txns.items ≡ in_order 0 bodies none =
    c.in_ok-txns.ensures
    ∙ ap (λ (these : List (List Statement)). in_order 0 these c.new-start.result)
    c.bodies.ensures.value
    ∙ ap (in_order 0 bodies) c.new-start.ensures in
    record {
      exact = made ∙ in_order-serial_txns bodies none;
      serial = subst (SerialRun bodies none) (sym made) (in_order-serial bodies none c.requires);
    }
