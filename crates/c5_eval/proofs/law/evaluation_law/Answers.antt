use Rattle.c5_eval.proofs.OnStates.{follows_eval}
use Rattle.c5_eval.proofs.ReadBlocks.{answers_same}
use Rattle.c5_eval.proofs.law.evaluation_law.Goals as goal

pub returns-clause-bodies : goal.returns-clause-bodies
returns-clause-bodies c = follows_eval

pub returns-clause-answers : goal.returns-clause-answers
returns-clause-answers c = answers_same
