-- The command line of the program, as `clap` sees it.
use Rattle.std.specs.Prelude.{ℕ, true, List, Some, codes}
use Rattle.clap.specs.Walk.{Rule}
use Rattle.clap.specs.Simple.{App, new_app, new_rule, on_top, with_rule}
use Rattle.clap.specs.declared.builder.value_parser.ValueParser.TheVariants.{Unsigned}
use Rattle.c5_rows.specs.Sizes.{max_threads, max_transactions, max_workers}

-- transactions that `--count` asks for: as many as a script may have
abbrev pub max_count : ℕ
max_count = max_transactions

-- transactions if `--count` isn't given
abbrev pub default_count : ℕ
default_count = 1000

-- one required word: the command
abbrev pub command_rule : Rule
command_rule = record (new_rule (codes "command")) { required = true }

-- an option of this name that takes a number from 1 to `most`
abbrev pub number_rule : List ℕ → ℕ → Rule
number_rule name most =
    record (new_rule name) { long = Some name; parser = Some (Unsigned 1 most) }

abbrev pub threads_rule : Rule
threads_rule = number_rule (codes "threads") max_threads

abbrev pub workers_rule : Rule
workers_rule = number_rule (codes "workers") max_workers

abbrev pub count_rule : Rule
count_rule = number_rule (codes "count") max_count

-- no word is the program's name, and there is a version to ask for
abbrev pub empty_program : App
empty_program =
    on_top (λ s. record s { no_binary_name = true; has_version = true }) (new_app (codes "c5"))

-- the command line: the command's word and three options; `clap` adds help and version
unfoldable pub program : App
program = with_rule (with_rule (with_rule (with_rule empty_program command_rule) threads_rule)
    workers_rule) count_rule
