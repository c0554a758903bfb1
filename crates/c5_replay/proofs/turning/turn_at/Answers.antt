use Rattle.c5_replay.proofs.StepLemmas.{worker-at, turn-taken}
use Rattle.c5_replay.proofs.turning.turn_at.Goals as goal

pub turn-turn-requires-clause-fits : goal.turn-turn-requires-clause-fits
turn-turn-requires-clause-fits c =
    worker-at c.args.pass.now c.args.workers.now c.args.place _ c.requires.workers c.requires.place

pub returns : goal.returns
returns c =
    turn-taken c.args.pass.now c.turn-turn.new.pass c.args.workers.now c.args.place _
    c.turn-turn.new.self _ c.requires.place c.turn-turn.ensures.turn c.turn-turn.ensures.fits
    c.turn-turn.ensures.only c.place-place.ensures.sound
