-- How much each command reads.
use Rattle.std.specs.Prelude.{ℕ}
use Rattle.c5_rows.specs.Sizes.{max_log_bytes, max_script_bytes}
use Rattle.c5_words.specs.declared.command.Command.{Command}
use Rattle.c5_words.specs.declared.command.Command.TheVariants.{Apply, Primary, Backup, Clone}
use Rattle.c5_words.specs.declared.command.Command.TheVariants.{Turns}

-- the most bytes that a command reads
abbrev pub input_limit : Command → ℕ
input_limit Apply = max_log_bytes
input_limit Primary = max_script_bytes
input_limit Backup = max_log_bytes
input_limit Clone = max_script_bytes
input_limit Turns = max_script_bytes
