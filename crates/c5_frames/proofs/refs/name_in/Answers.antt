use Rattle.std.proofs.Common.{◌≡◌, ◌∙◌, ℕ, ◌+◌, ◌-◌, ap, get_or, take, drop, arith}
use Rattle.c5_frames.proofs.RefLemmas.{written}
use Rattle.c5_frames.proofs.refs.name_in.Goals as goal

pub bounds-payload-2 : goal.bounds-payload-2
bounds-payload-2 c =
    let p = written c.requires.0 c.args.payload.now c.requires.1 c.requires.2 in
    omega (arith, p.long)

pub bounds-payload-1 : goal.bounds-payload-1
bounds-payload-1 c =
    let p = written c.requires.0 c.args.payload.now c.requires.1 c.requires.2 in
    omega (arith, p.long)

pub slice_bounds-result-end : goal.slice_bounds-result-end
slice_bounds-result-end c =
    let p = written c.requires.0 c.args.payload.now c.requires.1 c.requires.2 in
    omega (arith, p.fits)

pub returns-clause-table : goal.returns-clause-table
returns-clause-table c = λ tables w e. (written tables c.args.payload.now w e).table

pub returns-clause-key : goal.returns-clause-key
returns-clause-key c = λ tables w e.
    let n = get_or c.args.payload.now 2 0 in
    let size : 3 + n - 3 ≡ n = omega arith in
    ap (λ (k : ℕ). take k (drop 3 c.args.payload.now)) size ∙
    (written tables c.args.payload.now w e).key
