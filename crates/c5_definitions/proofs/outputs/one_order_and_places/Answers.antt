use Rattle.c5_definitions.proofs.OutputLaws.{clone-cut}
use Rattle.c5_definitions.proofs.outputs.one_order_and_places.Goals as goal

pub returns : goal.returns
returns c script order these places those = clone-cut script order these places those
