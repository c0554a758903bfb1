use Rattle.std.proofs.Common.{◌≤◌, length, subst, arith}
use Rattle.std.specs.List.{All}
use Rattle.std.proofs.lemmas.List.{take_all}
use Rattle.std.proofs.lemmas.List.Elements.{All-more, recursion_from_All}
use Rattle.c5_rows.specs.Bytes.{IsKey}
use Rattle.c5_script.proofs.blocks.know_keys.Goals as goal

pub loop-key-preserved : goal.loop-key-preserved
loop-key-preserved c =
    let keys = c.args.keys.now in
    let i = c.loop-key.key-index in
    let key = c.key-item.result in
    All-more IsKey keys i key c.loop-key-test.true c.loop-key.invariant
    (subst IsKey c.key-item.is c.know_key.ensures)

pub returns : goal.returns
returns c =
    let keys = c.args.keys.now in
    let i = c.loop-key.key-index in
    let past : length keys ≤ i = omega arith in
    recursion_from_All IsKey keys (subst (All IsKey) (take_all i keys past) c.loop-key.invariant)
