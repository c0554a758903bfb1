use Rattle.std.proofs.Common.{◌∙◌}
use Rattle.c5_script.proofs.Shapes.{table-shape}
use Rattle.c5_script.proofs.headings.table_in.Goals as goal

pub returns-in-len1-up-clause-value : goal.returns-in-len1-up-clause-value
returns-in-len1-up-clause-value c =
    c.table_of.ensures.value ∙ table-shape c.args.tables.now c.args.words.now _
    c.in-len1-up.len_at_least
