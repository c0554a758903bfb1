-- What a list of words asks for: the meaning that `clap` gives it, by the command line `program`.
use Rattle.std.specs.Prelude.{◌≡◌, ◌≤◌, ℕ, ⊤, List, [], ◌∷◌, codes, Option, Some, None}
use Rattle.std.specs.Prelude.{Result, Ok, Err, option_map, option_and_then, if◌then◌else◌}
use Rattle.std.specs.Option.{option_map_or}
use Rattle.std.specs.Str.{bytes_eq}
use Rattle.std.specs.Str.Parse.{digits_value, without_leading_plus}
use Rattle.clap.specs.Walk.{Row, Text, first_of, one_of}
use Rattle.clap.specs.Simple.{matches_of}
use Rattle.clap.specs.Kinds.{Kinds}
use Rattle.clap.specs.Faults.{fault_of}
use Rattle.clap.specs.declared.error.kind.ErrorKind.{ErrorKind}
use Rattle.clap.specs.declared.error.kind.ErrorKind.TheVariants as kind
use Rattle.c5_rows.specs.Sizes.{max_threads, max_workers}
use Rattle.c5_words.specs.Names.{command_in}
use Rattle.c5_words.specs.Program.{program, default_count, max_count}
use Rattle.c5_words.specs.declared.options.Options.{Options}
use Rattle.c5_words.specs.declared.request.Request.{Request}
use Rattle.c5_words.specs.declared.request.Request.TheVariants.{Run, Generate, Help, Version}
use Rattle.c5_words.specs.declared.request.WordsFault.{WordsFault}
use Rattle.c5_words.specs.declared.request.WordsFault.TheVariants.{Refused, NoMemory}

-- the number of the option of this name, the default if it isn't given
unfoldable pub option_number : Text → ℕ → List Row → ℕ
option_number name default rows =
    option_map_or (λ text. digits_value 10 (without_leading_plus text)) (one_of name rows) default

-- the numbers of the options
abbrev pub options_of : List Row → Options
options_of rows = record {
  threads = option_number (codes "threads") 1 rows;
  workers = option_number (codes "workers") 1 rows;
  count = option_number (codes "count") default_count rows;
}

-- the run with these options that a word asks for: none if it names no command
abbrev pub request_in : Options → Text → Option Request
request_in options word = if bytes_eq word (codes "gen") then Some (Generate options)
    else option_map (λ command. Run command options) (command_in word)

-- the run that accepted words ask for: none if the word of their command names none
abbrev pub run_of : List Row → Option Request
run_of rows =
    option_and_then (request_in (options_of rows)) (first_of (codes "command") rows)

-- what words ask for that `clap` answers with an error of this kind
abbrev pub request_for : ErrorKind → Option Request
request_for kind.DisplayHelp = Some Help
request_for kind.DisplayVersion = Some Version
request_for _ = None

-- what words ask for by the first error that `clap` finds in them, and by their options if none
abbrev pub request_by : Kinds → List Row → Option Request
request_by [] rows = run_of rows
request_by (error ∷ more) rows = request_for error

-- what a list of words asks for, without the program's name; nothing if it is refused
unfoldable pub meaning_of : List Text → Option Request
meaning_of words = request_by (fault_of program words) (matches_of program words)

-- an answer to words of this meaning; out of memory answers any
abbrev pub Answers : Option Request → Result Request WordsFault → Type 0
Answers meaning (Ok request) = meaning ≡ Some request
Answers meaning (Err Refused) = meaning ≡ None
Answers meaning (Err NoMemory) = ⊤

-- each number is within its range
pub record AreOptions (options : Options) : Type 0 where
  pub some_threads : 1 ≤ options.threads
  pub few_threads : options.threads ≤ max_threads
  pub some_workers : 1 ≤ options.workers
  pub few_workers : options.workers ≤ max_workers
  pub some_count : 1 ≤ options.count
  pub few_count : options.count ≤ max_count

-- the numbers of a run are within their ranges
abbrev pub IsWithin : Request → Type 0
IsWithin (Run command options) = AreOptions options
IsWithin (Generate options) = AreOptions options
IsWithin Help = ⊤
IsWithin Version = ⊤
