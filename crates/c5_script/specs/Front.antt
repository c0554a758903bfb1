-- What a line of a script that a log follows says, as it is held.
use Rattle.c5_definitions.specs.ScriptSoFar.{ScriptSoFar}
use Rattle.c5_definitions.specs.Statements.{FrontLine, goes_on, log_follows}
use Rattle.c5_script.specs.declared.partial.Taken.{Taken}
use Rattle.c5_script.specs.declared.partial.Taken.TheVariants.{More, Log}

-- the script goes on from here, or the log follows
abbrev pub front_line_of : ScriptSoFar → Taken → FrontLine
front_line_of s More = goes_on s
front_line_of s Log = log_follows
