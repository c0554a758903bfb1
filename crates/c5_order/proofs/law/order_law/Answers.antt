use Rattle.c5_order.proofs.Serial.{serial-run}
use Rattle.c5_order.proofs.law.order_law.Goals as goal

pub returns : goal.returns
returns c base h is = serial-run c.evaluation_law.ensures.bodies base h is
