use Rattle.c5_definitions.proofs.ReplyLines.{reply-lines}
use Rattle.c5_definitions.proofs.outputs.lines_of_replies.Goals as goal

pub returns : goal.returns
returns c tables read lawful is total state txns place fits =
    reply-lines tables total state txns read place lawful is fits
