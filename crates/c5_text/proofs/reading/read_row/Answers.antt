use Rattle.c5_text.proofs.Laws.{found-in, none-in, only-in}
use Rattle.c5_text.proofs.reading.read_row.Goals as goal

pub returns-clause-found : goal.returns-clause-found
returns-clause-found c =
    found-in c.tables-tables.result.now c.args.schema.now c.args.line.now c.line_in.result
    c.tables-tables.ensures.value c.line_in.ensures

pub returns-clause-none : goal.returns-clause-none
returns-clause-none c =
    none-in c.tables-tables.result.now c.args.schema.now c.args.line.now c.line_in.result
    c.tables-tables.ensures.value c.tables-tables.ensures.schema c.read_names.ensures
    c.line_in.ensures

pub returns-clause-only : goal.returns-clause-only
returns-clause-only c =
    only-in c.tables-tables.result.now c.args.schema.now c.args.line.now c.line_in.result
    c.tables-tables.ensures.value c.tables-tables.ensures.schema c.read_names.ensures
    c.line_in.ensures
