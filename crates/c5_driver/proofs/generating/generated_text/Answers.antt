use Rattle.std.proofs.Common.{subst, sym}
use Rattle.c5_driver.specs.Figures.{summary_in}
use Rattle.c5_driver.specs.Generating.{EndsWith, gen_ending}
use Rattle.c5_driver.proofs.Summed.{ends}
use Rattle.c5_driver.proofs.generating.generated_text.Goals as goal

pub returns-clause-ending : goal.returns-clause-ending
returns-clause-ending g c =
    subst (EndsWith gen_ending) (sym c.in_ok-text.ensures)
    (ends c.args.options.count (summary_in c.in_ok-figures.figures) c.in_ok-figures.ensures.counts)
