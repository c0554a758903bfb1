use Rattle.std.proofs.Common.{◌∙◌}
use Rattle.std.specs.Str.Parse.{ParsesUnsigned, ExplainsUnsignedError, HasUnsignedDigitsIfOk}
use Rattle.clap.specs.Matches.{found_of}
use Rattle.c5_words.proofs.Reading.{number_read}
use Rattle.c5_words.proofs.parsing.number_given.Goals as goal

pub returns : goal.returns
returns c = c.unwrap_or.ensures ∙ number_read _
    (λ bs r. ParsesUnsigned 32 10 bs r × ExplainsUnsignedError 10 bs r × HasUnsignedDigitsIfOk bs r)
    (found_of c.args.matches.now) c.args.name.now c.args.default c.get_one.result
    (λ u x g. g.0) c.requires c.get_one.ensures.none c.get_one.ensures.value
