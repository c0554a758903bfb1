-- The headline, from how a run ends.
use Rattle.std.proofs.Common.{◌≡◌, ◌∙◌, ◌++◌, ℕ, List, [], Option, Some, None, refl, ap, subst}
use Rattle.std.proofs.Common.{append-nil}
use Rattle.std.specs.Prelude.{IfSome}
use Rattle.std.specs.Io.KnownBytes.{Appends, Consumes, IsAtEnd}
use Rattle.c5_definitions.specs.Script.{script_of}
use Rattle.c5_words.specs.declared.options.Options.{Options}
use Rattle.c5_words.specs.declared.request.Request.{Request}
use Rattle.c5_words.specs.declared.request.Request.TheVariants.{Run}
use Rattle.c5_words.specs.declared.command.Command.TheVariants.{Clone}
use Rattle.c5_driver.specs.declared.status.Status.{Status}
use Rattle.c5_driver.specs.declared.status.Status.TheVariants as statuses
use Rattle.c5_driver.specs.Printed.{PrintsAll}
use Rattle.c5_driver.specs.Runs.{Prints, ProgramEnds, ClonesScript, Headline}
use Rattle.c5_driver.specs.Uses.{SourceUse, SinkUse}

all-taken : (input taken : List ℕ) (left : Option (List ℕ)) → Consumes (Some input) left taken
    → IsAtEnd left → input ≡ taken
all-taken input taken None took ended = absurd took
all-taken input taken (Some ys) took ended =
    took ∙ ap (λ (bs : List ℕ). taken ++ bs) ended ∙ append-nil taken

none-left : (input taken : List ℕ) (left : Option (List ℕ)) → Consumes (Some input) left taken
    → IsAtEnd left → left ≡ Some []
none-left input taken None took ended = absurd took
none-left input taken (Some ys) took ended = ap Some ended

grown : (held text : List ℕ) (now : Option (List ℕ)) → Appends (Some held) now text
    → now ≡ Some (held ++ text)
grown held text None grew = absurd grew
grown held text (Some ys) grew = ap Some grew

headline-of : (left held : Option (List ℕ)) (source : SourceUse) (sink : SinkUse)
    → source.left_old ≡ left
    → sink.held_old ≡ held → (options : Options) → Prints Clone options source (PrintsAll sink)
    → IfSome left (λ input. IfSome held (λ h. ClonesScript input h source sink))
headline-of None held source sink is was options p = tt
headline-of (Some input) None source sink is was options p = tt
headline-of (Some input) (Some held) source sink is was options p =
    let took =
    subst (λ (o : Option (List ℕ)). Consumes o source.left_new p.input) is p.read.consumed in
    let same = all-taken input p.input source.left_new took p.read.ended in
    let clone = p.made.printed in
    let grew = grown held p.text sink.held_new
    (subst (λ (o : Option (List ℕ)). Appends o sink.held_new p.text) was p.printed.written) in
    record {
      script = p.made.script;
      order = clone.order;
      places = clone.places;
      read = ap script_of same ∙ p.made.read;
      nothing_left = none-left input p.input source.left_new took p.read.ended;
      each_once = clone.each_once;
      lawful = clone.lawful;
      grew = grew ∙ ap (λ (t : List ℕ). Some (held ++ t)) clone.printed;
    }

-- a clone that ends well has cloned the script
pub headline-from : (request : Option Request) (status : Status) (source : SourceUse)
    (sink : SinkUse) → ProgramEnds request status source sink → Headline request status source sink
headline-from request status source sink ends options is ok =
    let clone : ProgramEnds (Some (Run Clone options)) statuses.Ok source sink =
    subst (λ (s : Status). ProgramEnds (Some (Run Clone options)) s source sink) ok
    (subst (λ (o : Option Request). ProgramEnds o status source sink) is ends) in
    headline-of source.left_old sink.held_old source sink refl refl options clone
