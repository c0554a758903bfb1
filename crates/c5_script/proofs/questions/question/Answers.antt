use Rattle.c5_script.specs.Words.{held_words}
use Rattle.c5_script.proofs.FitsLines.{returned-row-fits, returned-sum-fits}
use Rattle.c5_script.proofs.questions.question.Goals as goal

pub returns-else-count-ge-MAX_READ_LINES-clause-fits :
    goal.returns-else-count-ge-MAX_READ_LINES-clause-fits
returns-else-count-ge-MAX_READ_LINES-clause-fits c =
    returned-row-fits c.args.tables.now (held_words c.args.words.now) c.row.result c.row.ensures

pub returns-else-words-gt-MAX_SUM_WORDS-clause-fits :
    goal.returns-else-words-gt-MAX_SUM_WORDS-clause-fits
returns-else-words-gt-MAX_SUM_WORDS-clause-fits c =
    returned-sum-fits c.args.tables.now (held_words c.args.words.now) c.sum.result c.sum.ensures
