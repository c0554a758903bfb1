use Rattle.c5_script.specs.Forms.{form_held}
use Rattle.c5_script.specs.Words.{held_words}
use Rattle.c5_script.proofs.FitsLines.{added-fits}
use Rattle.c5_script.proofs.statements.add_statement.Goals as goal

pub returns-clause-fits : goal.returns-clause-fits
returns-clause-fits c = added-fits (form_held c.in_ok-form.form) c.args.tables.now
    (held_words c.args.words.now) _ _ c.statement_of.result c.statement_of.ensures.step
    c.statement_of.ensures.err c.requires.fits
