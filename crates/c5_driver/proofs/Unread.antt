-- A run that ends out of memory before it reads.
use Rattle.std.proofs.Common.{ℕ, refl, Option, Some, None}
use Rattle.c5_words.specs.declared.request.Request.{Request}
use Rattle.c5_words.specs.declared.request.Request.TheVariants.{Run, Generate, Help, Version}
use Rattle.c5_driver.specs.declared.refusal.Refusal.TheVariants as refusals
use Rattle.c5_driver.specs.declared.status.Status.TheVariants as statuses
use Rattle.c5_driver.specs.Commands.{input_limit}
use Rattle.c5_driver.specs.Inputs.{TakesAtMost}
use Rattle.c5_driver.specs.Printed.{PrintsLine}
use Rattle.c5_driver.specs.Refusals.{line_of}
use Rattle.c5_driver.specs.Runs.{ProgramEnds}
use Rattle.c5_driver.specs.Uses.{SourceUse, SinkUse}

pub no_memory : (request : Option Request) (source : SourceUse) (sink : SinkUse)
    → ((limit : ℕ) → TakesAtMost limit source) → PrintsLine sink (line_of refusals.NoMemory)
    → ProgramEnds request statuses.NoMemory source sink
no_memory None source sink takes line = tt
no_memory (Some (Run command options)) source sink takes line =
    record {
      refusal = refusals.NoMemory;
      ends = refl;
      refused = takes (input_limit command);
      line = line;
    }
no_memory (Some (Generate options)) source sink takes line = tt
no_memory (Some Help) source sink takes line = tt
no_memory (Some Version) source sink takes line = tt
