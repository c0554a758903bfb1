use Rattle.c5_eval.proofs.own.put.Goals as goal

pub returns-in_ok-insert-in-None-clause-set : goal.returns-in_ok-insert-in-None-clause-set
returns-in_ok-insert-in-None-clause-set g c =
    rw (← c.get_mut.follows.holds-at-none) c.in_ok-insert-in-None.ensures.updates.0
