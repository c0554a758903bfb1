use Rattle.std.proofs.Common.{◌≡◌, ◌+◌, ◌-◌, ◌≤◌, ℕ, List, length}
use Rattle.c5_definitions.specs.Lines.{lines_of, after_lines}
use Rattle.c5_definitions.specs.ScriptSoFar.{ScriptSoFar, script_start}
use Rattle.c5_definitions.specs.Script.{front_from}
use Rattle.c5_script.proofs.front_parsing.parse_front.Given as goal

-- reading on from here gives the whole
pub record ReadsOn (bytes : List ℕ) (number : ℕ) (script : ScriptSoFar)
    (rest : List ℕ) : Type 0 where
  pub whole : front_from 1 script_start (lines_of bytes) ≡ front_from number script (lines_of rest)
  pub behind : after_lines (number - 1) bytes ≡ rest
  pub some : 1 ≤ number
  pub within : number + length rest ≤ length bytes + 1

abbrev pub invariant-loop-rest : goal.invariant-loop-rest
invariant-loop-rest l = ReadsOn l.bytes l.number l.script l.rest

abbrev pub decreases-loop-rest : goal.decreases-loop-rest
decreases-loop-rest l = length l.rest
