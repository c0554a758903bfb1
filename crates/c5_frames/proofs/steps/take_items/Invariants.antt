use Rattle.std.proofs.Common.{◌-◌, length}
use Rattle.c5_frames.specs.DecoderStates.{IsReady}
use Rattle.c5_frames.proofs.steps.take_items.Given as goal

-- what has come whole before is taken
abbrev pub invariant-loop-p : goal.invariant-loop-p
invariant-loop-p l = IsReady l.bytes l.p

abbrev pub decreases-loop-p : goal.decreases-loop-p
decreases-loop-p l = length l.bytes - l.p.at
