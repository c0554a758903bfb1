use Rattle.c5_workers.proofs.Turned.{ends-full, only-none}
use Rattle.c5_workers.proofs.scheduling.schedule_all.Goals as goal

pub loop-init : goal.loop-init
loop-init c =
    record { board = c.requires.pass; fits = c.requires.fits; only = only-none c.args.pass.now }

pub returns-in-Rows-clause-end : goal.returns-in-Rows-clause-end
returns-in-Rows-clause-end c =
    ends-full _ _ _ c.loop.invariant.only c.in-Rows.ensures.turn.0 c.in-Rows.ensures.turn.1
