use Rattle.c5_gen.proofs.ScriptFits.{script-is}
use Rattle.c5_gen.proofs.ScriptLimits.{script-limits}
use Rattle.c5_gen.proofs.laws.limits_law.Goals as goal

pub returns : goal.returns
returns c count few = record { script = script-is count; limits = script-limits count few }
