-- The names of the commands.
use Rattle.std.specs.Prelude.{ℕ, List, codes, Option, Some, None, if◌then◌else◌}
use Rattle.std.specs.Str.{bytes_eq}
use Rattle.c5_words.specs.declared.command.Command.{Command}
use Rattle.c5_words.specs.declared.command.Command.TheVariants.{Apply, Primary, Backup, Clone}
use Rattle.c5_words.specs.declared.command.Command.TheVariants.{Turns}

-- the command over an input that has this name
abbrev pub command_in : List ℕ → Option Command
command_in word =
    if bytes_eq word (codes "apply") then Some Apply
    else (if bytes_eq word (codes "primary") then Some Primary
    else (if bytes_eq word (codes "backup") then Some Backup
    else (if bytes_eq word (codes "clone") then Some Clone
    else (if bytes_eq word (codes "turns") then Some Turns
    else None))))
