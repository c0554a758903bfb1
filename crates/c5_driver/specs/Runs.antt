-- How a run of the program ends, by its status.
use Rattle.std.specs.Prelude.{◌≡◌, ◌++◌, ℕ, List, [], length, Option, Some, None, IfSome}
use Rattle.std.specs.Prelude.{Ok}
use Rattle.std.specs.List.{range_with_len}
use Rattle.std.specs.List.Sorted.{IsPermutation}
use Rattle.c5_rows.specs.Counts.{Rose}
use Rattle.c5_definitions.specs.Outputs.{clone_text}
use Rattle.c5_definitions.specs.Replies.{AreLawfulPlaces, in_reply_order}
use Rattle.c5_definitions.specs.Script.{script_of}
use Rattle.c5_definitions.specs.ScriptParts.{ScriptParts}
use Rattle.c5_definitions.specs.Summaries.{generated_summary}
use Rattle.c5_words.specs.declared.command.Command.{Command}
use Rattle.c5_words.specs.declared.command.Command.TheVariants.{Clone}
use Rattle.c5_driver.specs.declared.refusal.Refusal.{Refusal}
use Rattle.c5_driver.specs.declared.refusal.Refusal.TheVariants as refusals
use Rattle.c5_driver.specs.declared.status.Status.{Status}
use Rattle.c5_driver.specs.declared.status.Status.TheVariants as statuses
use Rattle.c5_driver.specs.Commands.{input_limit}
use Rattle.c5_driver.specs.Generating.{EndsWith, gen_ending}
use Rattle.c5_driver.specs.Inputs.{ReadsAll, Refuses}
use Rattle.c5_driver.specs.Meanings.{input_refusal, IsAccepted, IsTextOf}
use Rattle.c5_driver.specs.Printed.{PrintsAll, PrintsPart, PrintsLine, PrintsText}
use Rattle.c5_words.specs.declared.options.Options.{Options}
use Rattle.c5_words.specs.declared.request.Request.{Request}
use Rattle.c5_words.specs.declared.request.Request.TheVariants.{Run, Generate, Help, Version}
use Rattle.c5_words.specs.Texts.{help_text, version_text}
use Rattle.c5_driver.specs.Refusals.{status_of, line_of}
use Rattle.c5_driver.specs.Uses.{SourceUse, SinkUse}

-- the whole input was read and is accepted, and the sink took the text that the command makes of it
pub record Prints (command : Command) (options : Options) (source : SourceUse)
    (takes : List ℕ → Type 0) : Type 0 where
  pub input : List ℕ
  pub text : List ℕ
  pub read : ReadsAll (input_limit command) source input
  pub accepted : IsAccepted command input
  pub made : IsTextOf command options input text
  pub printed : takes text

-- the input was refused, with this status; the line that says why was printed
pub record PrintsRefusal (command : Command) (status : Status) (source : SourceUse) (sink : SinkUse)
    : Type 0 where
  pub refusal : Refusal
  pub ends : status_of refusal ≡ status
  pub refused : Refuses (input_limit command) (input_refusal command) source refusal
  pub line : PrintsLine sink (line_of refusal)

-- how a run of a command over an input ends
abbrev pub Ends : Command → Options → Status → SourceUse → SinkUse → Type 0
Ends command options statuses.Ok source sink = Prints command options source (PrintsAll sink)
Ends command options statuses.WriteFault source sink =
    Prints command options source (PrintsPart sink)
Ends command options status source sink = PrintsRefusal command status source sink

-- how a run ends whose words are refused: with their line, or out of memory
abbrev pub RefusesWords : Status → SinkUse → Type 0
RefusesWords statuses.BadWords sink = PrintsLine sink (line_of refusals.BadWords)
RefusesWords statuses.NoMemory sink = Unit {0}
RefusesWords status sink = ⊥

-- how a run ends that prints a page of the program about itself: it was printed, or a write failed,
-- or out of memory
abbrev pub PrintsPage : List ℕ → Status → SinkUse → Type 0
PrintsPage page statuses.NoMemory sink = Unit {0}
PrintsPage page status sink = PrintsText status sink page

-- the text is the summary of a count; it says, as each does, that all money is there at the end and
-- in all that the reads saw
pub record IsSummaryText (count : ℕ) (text : List ℕ) : Type 0 where
  pub counted : text ≡ generated_summary count
  pub ending : EndsWith gen_ending text

-- how a run ends that prints the summary of a count: it was printed, or a write failed, or out of
-- memory
abbrev pub PrintsSummary : ℕ → Status → SinkUse → Type 0
PrintsSummary count statuses.NoMemory sink = Unit {0}
PrintsSummary count status sink =
    (text : List ℕ) × IsSummaryText count text × PrintsText status sink text

-- how a run of the program ends whose words mean this
abbrev pub ProgramEnds : Option Request → Status → SourceUse → SinkUse → Type 0
ProgramEnds None status source sink = RefusesWords status sink
ProgramEnds (Some (Run command options)) status source sink =
    Ends command options status source sink
ProgramEnds (Some (Generate options)) status source sink =
    PrintsSummary options.count status sink
ProgramEnds (Some Help) status source sink = PrintsPage help_text status sink
ProgramEnds (Some Version) status source sink = PrintsPage version_text status sink

-- nothing is read: the words are refused, or ask for a summary or a page
abbrev pub ReadsNothing : Option Request → Type 0
ReadsNothing (Some (Run command options)) = ⊥
ReadsNothing request = Unit {0}

-- a run with this status prints nothing
abbrev pub PrintsNothing : Status → Type 0
PrintsNothing statuses.ReadFault = Unit {0}
PrintsNothing statuses.NoMemory = Unit {0}
PrintsNothing status = ⊥

-- the run succeeded, or ran out of memory
abbrev pub IsSuccess : Status → Type 0
IsSuccess statuses.Ok = Unit {0}
IsSuccess statuses.NoMemory = Unit {0}
IsSuccess status = ⊥

-- if no read and no write failed, a run over an accepted input is done
abbrev pub Completes : Command → Status → SourceUse → SinkUse → Type 0
Completes command status source sink =
    IfSome source.left_old (λ input.
    IsAccepted command input
    → ¬ Rose source.faults_old source.faults_new
    → ¬ Rose sink.faults_old sink.faults_new
    → IsSuccess status)

-- if no read and no write failed, a run is done that has an accepted input, or none
abbrev pub ProgramCompletes : Request → Status → SourceUse → SinkUse → Type 0
ProgramCompletes (Run command options) status source sink = Completes command status source sink
ProgramCompletes request status source sink =
    ¬ Rose sink.faults_old sink.faults_new → IsSuccess status

-- the bytes were a script, of which nothing is left; the sink has, after what it held, an order
-- that names each body once, the replies to the reads at some lawful places of the bodies' serial
-- run in that order, and all rows after the run
pub record ClonesScript (input held : List ℕ) (source : SourceUse) (sink : SinkUse) : Type 0 where
  pub script : ScriptParts
  pub order : List ℕ
  pub places : List ℕ
  pub read : script_of input ≡ Ok script
  pub nothing_left : source.left_new ≡ Some []
  pub each_once : IsPermutation (range_with_len 0 (length script.bodies)) order
  pub lawful : AreLawfulPlaces (in_reply_order script.reads) (length order) places
  pub grew : sink.held_new ≡ Some (held ++ clone_text script order places)

-- a `clone` that succeeds, on any number of threads and workers, has cloned the script, if the
-- bytes of the source and the sink are known
abbrev pub Headline : Option Request → Status → SourceUse → SinkUse → Type 0
Headline request status source sink =
    (options : Options) → request ≡ Some (Run Clone options) → status ≡ statuses.Ok
    → IfSome source.left_old (λ input. IfSome sink.held_old (λ held.
    ClonesScript input held source sink))
