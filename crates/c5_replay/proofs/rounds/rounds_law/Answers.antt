use Rattle.c5_replay.proofs.TurnRounds.{rounds-suffice}
use Rattle.c5_replay.proofs.rounds.rounds_law.Goals as goal

pub returns : goal.returns
returns c = rounds-suffice
