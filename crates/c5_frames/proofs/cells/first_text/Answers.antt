use Rattle.std.proofs.Common.{◌∙◌, ap, arith, get_or, take, drop}
use Rattle.c5_frames.proofs.RefLemmas.{text-parts, text-seen, tail_is}
use Rattle.c5_frames.proofs.cells.first_text.Goals as goal

pub unreachable-requires : goal.unreachable-requires
unreachable-requires c =
    let p = text-parts c.args.bytes.now c.requires.0 c.requires.1 in
    omega (arith, p.some)

pub split_at-requires : goal.split_at-requires
split_at-requires c =
    let p = text-parts c.args.bytes.now c.requires.0 c.requires.1 in
    let whole = tail_is 1 c.args.bytes.now in
    rw whole p.fits

pub returns : goal.returns
returns c =
    let bytes = c.args.bytes.now in
    let whole = tail_is 1 bytes in
    text-seen bytes c.split_at.result.0.now c.split_at.result.1.now c.requires.0 c.requires.1
    (c.split_at.ensures.front ∙ ap (take (get_or bytes 0 0)) whole)
    (c.split_at.ensures.back ∙ ap (drop (get_or bytes 0 0)) whole)
