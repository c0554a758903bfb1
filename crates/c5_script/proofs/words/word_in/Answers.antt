use Rattle.std.proofs.Common.{◌∙◌}
use Rattle.c5_script.proofs.WordLaws.{words-quote, words-bare}
use Rattle.c5_script.proofs.words.word_in.Goals as goal

pub returns-in-Ok-clause-words : goal.returns-in-Ok-clause-words
returns-in-Ok-clause-words c =
    words-quote c.args.bytes.now c.requires.some c.if-bytes-eq34.true ∙ c.in-Ok.ensures.words

pub returns-in-Err-clause-words : goal.returns-in-Err-clause-words
returns-in-Err-clause-words c =
    words-quote c.args.bytes.now c.requires.some c.if-bytes-eq34.true ∙ c.in-Err.ensures.words

pub returns-in-Ok-bare_in-clause-words : goal.returns-in-Ok-bare_in-clause-words
returns-in-Ok-bare_in-clause-words c =
    words-bare c.args.bytes.now c.requires.some c.requires.no_blank c.if-bytes-eq34.false ∙
    c.in-Ok-bare_in.ensures.words

pub returns-in-Err-bare_in-clause-words : goal.returns-in-Err-bare_in-clause-words
returns-in-Err-bare_in-clause-words c =
    words-bare c.args.bytes.now c.requires.some c.requires.no_blank c.if-bytes-eq34.false ∙
    c.in-Err-bare_in.ensures.words
