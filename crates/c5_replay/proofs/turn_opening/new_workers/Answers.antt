use Rattle.c5_replay.proofs.OpenTurns.{workers-more}
use Rattle.c5_replay.proofs.turn_opening.new_workers.Goals as goal

pub loop-before-preserved : goal.loop-before-preserved
loop-before-preserved c =
    workers-more c.args.workers c.loop-before.before c.loop-before.list.items
    c.push.new.self.items c.in_ok-new.field-0 c.loop-before.invariant
    (c.in_ok-new.ensures {u = tt}).new (c.in_ok-new.ensures {u = tt}).fits
    (c.in_ok-push.ensures {u = tt}).items
