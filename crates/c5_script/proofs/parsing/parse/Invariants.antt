use Rattle.std.proofs.Common.{◌≡◌, ◌+◌, ◌≤◌, ℕ, List, length}
use Rattle.c5_definitions.specs.Lines.{lines_of}
use Rattle.c5_definitions.specs.ScriptSoFar.{ScriptSoFar}
use Rattle.c5_definitions.specs.Script.{script_from, script_of}
use Rattle.c5_script.proofs.parsing.parse.Given as goal

-- reading on from here gives the whole
pub record ReadsOn (bytes : List ℕ) (number : ℕ) (script : ScriptSoFar)
    (rest : List ℕ) : Type 0 where
  pub whole : script_of bytes ≡ script_from number script (lines_of rest)
  pub within : number + length rest ≤ length bytes + 1

abbrev pub invariant-loop-rest : goal.invariant-loop-rest
invariant-loop-rest l = ReadsOn l.bytes l.number l.script l.rest

abbrev pub decreases-loop-rest : goal.decreases-loop-rest
decreases-loop-rest l = length l.rest
