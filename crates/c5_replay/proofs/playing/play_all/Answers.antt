use Rattle.std.proofs.Common.{◌≡◌, get_or, sym, subst, rules}
use Rattle.c5_replay.specs.declared.part.Part.{Part}
use Rattle.c5_replay.proofs.Ended.{have-ended, EndsOf}
use Rattle.c5_replay.proofs.playing.play_all.Goals as goal

pub returns : goal.returns
returns g c =
    let e = c.in_ok-ends.ensures {u = tt} in
    let board = c.args.shared.board.now in
    let S = c.args.shared.start.now in
    let R = c.args.shared.reads.now in
    have-ended board S R c.args.parts.items c.in_ok-ends.ends.items (let n = e.len in search rules)
    (λ i d r less.
    let k = (e.each i r less).1 in
    subst (λ (p : Part). EndsOf board S R p (get_or c.in_ok-ends.ends.items i r))
    (sym (k.job_is d)) k.call.met)
