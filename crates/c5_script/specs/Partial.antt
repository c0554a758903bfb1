-- A script that is read in part, as it is held.
use Rattle.std.specs.Prelude.{◌≤◌, ◌<◌, ℕ, List, [], ◌∷◌, ◌++◌, length, Option, Some, None, Result}
use Rattle.std.specs.Prelude.{Ok}
use Rattle.c5_rows.specs.Sizes.{max_sessions, max_reads}
use Rattle.c5_definitions.specs.declared.script.ReadLine.{ReadLine}
use Rattle.c5_definitions.specs.declared.script.TurnWord.{TurnWord}
use Rattle.c5_definitions.specs.declared.script.ScriptKind.{ScriptKind}
use Rattle.c5_definitions.specs.declared.script.Statement.{Statement}
use Rattle.c5_definitions.specs.Steps.{◌>>=◌}
use Rattle.c5_definitions.specs.ScriptParts.{ScriptParts}
use Rattle.c5_definitions.specs.ScriptSoFar.{ScriptSoFar, Block, outside, in_txn, in_read}
use Rattle.c5_definitions.specs.FitsScript.{BodyFits, ReadFits}
use Rattle.c5_script.specs.declared.block.OpenBlock.{OpenBlock}
use Rattle.c5_script.specs.declared.block.OpenBlock.TheVariants.{Outside, Txn, Opened, Read}

abbrev pub block_of : OpenBlock → Block
block_of Outside = outside
block_of (Txn body) = in_txn body
block_of (Opened session) = in_read session []
block_of (Read read) = in_read read.session read.lines

-- the script is there once there is a table
abbrev pub script_so_far : Option ScriptParts → OpenBlock → ScriptSoFar
script_so_far None block =
    record { tables = []; bodies = []; reads = []; turns = []; block = block_of block }
script_so_far (Some script) block =
    record {
      tables = script.tables;
      bodies = script.bodies;
      reads = script.reads;
      turns = script.turns;
      block = block_of block;
    }

-- an open read block can be closed: its session is one, it fits the tables, and there is room for
-- it
pub record FitsAsRead (script : ScriptParts) (session : ℕ) (lines : List ReadLine) : Type 0 where
  pub session_some : 1 ≤ session
  pub session_few : session ≤ max_sessions
  pub fits : ReadFits script.tables (record { session = session; lines = lines })
  pub room : length script.reads < max_reads

-- what the open block has fits the script, which is there
abbrev pub BlockFits : Option ScriptParts → OpenBlock → Type 0
BlockFits script Outside = Unit {0}
BlockFits None block = ⊥
BlockFits (Some script) (Txn body) = BodyFits script.tables body
BlockFits (Some script) (Opened session) = FitsAsRead script session []
BlockFits (Some script) (Read read) = FitsAsRead script read.session read.lines

-- the script with more turn words
abbrev pub with_turns : ScriptParts → Result (List TurnWord) ScriptKind
    → Result ScriptParts ScriptKind
with_turns script read = read >>= λ new. Ok
    (record {
      tables = script.tables;
      bodies = script.bodies;
      reads = script.reads;
      turns = script.turns ++ new;
    })

-- the transaction of a body with one statement more
abbrev pub with_statement : List Statement → Result Statement ScriptKind → Result Block ScriptKind
with_statement body read = read >>= λ new. Ok (in_txn (body ++ new ∷ []))
